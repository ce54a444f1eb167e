pub mod Bits
pub mod Folds
pub mod LookUp
