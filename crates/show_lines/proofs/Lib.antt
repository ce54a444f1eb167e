pub mod Escapes
mod Examples
pub mod ItemPrints
pub mod Lists
pub mod ListsSent
pub mod PacketPushed
pub mod RecordPrints
pub mod RecordSent
pub mod Sending
pub mod Values
