pub mod Capture
pub mod Words
