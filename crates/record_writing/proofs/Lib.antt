pub mod Groups
pub mod Joins
pub mod Pieces
pub mod Bodies
