pub mod Machines
pub mod Parts
pub mod Places
pub mod Verdicts
