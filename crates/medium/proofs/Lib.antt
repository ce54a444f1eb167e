pub mod Buffers
pub mod Outside
pub mod Torn
