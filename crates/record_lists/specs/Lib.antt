pub mod EachOnce
pub mod SameRecord
