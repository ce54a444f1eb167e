pub mod Buffer
pub mod File
pub mod Memory
