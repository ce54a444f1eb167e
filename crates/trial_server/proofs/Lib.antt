pub mod Accounts
pub mod Admitting
pub mod Containing
pub mod Paces
pub mod Starting
