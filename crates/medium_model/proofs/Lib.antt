pub mod Images
pub mod Written
