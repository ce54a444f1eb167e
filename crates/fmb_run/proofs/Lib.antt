pub mod ReadLemmas
pub mod ShowLemmas
