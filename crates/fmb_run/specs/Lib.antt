pub mod Asked
pub mod Show
