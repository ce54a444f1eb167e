pub mod Answering
pub mod Bodies
pub mod Late
pub mod NoCommands
pub mod Rounds
pub mod Starting
pub mod Talking
