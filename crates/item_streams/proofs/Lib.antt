pub mod Ending
pub mod Exports
pub mod Joining
pub mod ReaderSteps
pub mod Reading
pub mod StreamLaws
pub mod StreamSteps
