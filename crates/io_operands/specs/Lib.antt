pub mod Firing
pub mod Generation
pub mod Watching
