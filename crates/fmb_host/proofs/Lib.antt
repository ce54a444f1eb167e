pub mod Fresh
pub mod Stocks
