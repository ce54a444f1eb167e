pub mod Trials
pub mod ServerLines
pub mod Plays
pub mod Starting
pub mod Outcomes
pub mod OnMedia
