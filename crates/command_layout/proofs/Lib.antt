pub mod AnswerLaws
pub mod CommandFills
pub mod CommandLaws
pub mod ContentFills
pub mod Exports
pub mod ImeiFills
