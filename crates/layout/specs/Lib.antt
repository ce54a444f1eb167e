pub mod Bytes
pub mod EitherRows
pub mod Fields
pub mod Laws
pub mod MappedRows
pub mod Nested
pub mod Next
pub mod Rows
