pub mod Body
pub mod Entries
pub mod Entry
pub mod Found
pub mod Journal
pub mod Places
