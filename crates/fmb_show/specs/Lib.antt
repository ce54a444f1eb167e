pub mod ItemLines
pub mod Printing
pub mod Showed
pub mod Shown
