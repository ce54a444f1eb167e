pub mod Connections
pub mod Progress
pub mod Workers
pub mod Evidence
pub mod Staff
