pub mod Edge
pub mod Later
