pub mod Drive
pub mod Ending
pub mod Halts
pub mod Log
pub mod Opening
pub mod Runs
pub mod Scripts
pub mod Steps
