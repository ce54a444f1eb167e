pub mod Moving
mod Calling
