pub mod Views
pub mod Seen
pub mod Rule
pub mod Steps
pub mod Refusals
pub mod Desks
pub mod Sessions
