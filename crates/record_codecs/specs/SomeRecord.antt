-- One record, whatever it says: `record_layout` defines it.
pub use Rattle.record_layout.specs.SomeRecord.{IsSomeRecord}
