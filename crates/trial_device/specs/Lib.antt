pub mod Sides
pub mod SideLines
pub mod Storing
pub mod Midway
pub mod Index
pub mod Fuses
pub mod Counting
pub mod Starting
