pub mod ContentLemmas
pub mod CutLemmas
