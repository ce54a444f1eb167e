pub mod BodyLaws
pub mod Exports
pub mod Fitting
pub mod Following
pub mod PacketFills
pub mod ReadLaws
pub mod RecordFills
pub mod Table
