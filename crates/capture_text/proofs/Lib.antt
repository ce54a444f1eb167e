pub mod CaptureLemmas
pub mod LineLemmas
