pub mod Draws
pub mod Made
pub mod Ranges
pub mod Standing
