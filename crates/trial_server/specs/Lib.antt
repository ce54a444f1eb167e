pub mod Archives
pub mod Serving
