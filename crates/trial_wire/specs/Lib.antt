pub mod Connections
pub mod Following
pub mod Hearing
pub mod OneStream
pub mod Sending
pub mod Steps
pub mod WireLinks
