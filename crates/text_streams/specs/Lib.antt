pub mod Memory
pub mod Refused
pub mod States
pub mod Writes
