pub mod Length
pub mod Pieces
pub mod Refusal
pub mod Checks
pub mod Packed
pub mod Packing
pub mod Room
