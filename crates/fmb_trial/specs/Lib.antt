pub mod Benches
pub mod Played
pub mod Ran
