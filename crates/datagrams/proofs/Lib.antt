pub mod DatagramFills
pub mod DatagramLaws
pub mod DatagramReads
pub mod NumbersFills
pub mod PlaceSteps
pub mod ReplyFills
pub mod ReplyReads
