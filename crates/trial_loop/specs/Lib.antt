pub mod Loops
pub mod Feeding
pub mod Rounded
pub mod Opened
pub mod Places
pub mod Enrolling
pub mod Starts
