pub mod PlainLemmas
pub mod Parsing
pub mod Steps
pub mod ServeLemmas
pub mod NumberLemmas
pub mod ServeReading
pub mod DriveReading
pub mod WordsLemmas
