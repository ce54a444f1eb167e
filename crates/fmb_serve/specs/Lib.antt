pub mod Lines
pub mod Statuses
pub mod Serve
pub mod Doors
pub mod Steps
