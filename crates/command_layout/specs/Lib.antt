pub mod Answers
pub mod CommandRows
pub mod Laws
pub mod Spelling
pub mod Table
pub mod Values
