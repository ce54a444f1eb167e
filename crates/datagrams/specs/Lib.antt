pub mod BodyRows
pub mod DatagramRows
pub mod Items
pub mod Laws
pub mod Places
pub mod Values
pub mod Views
