pub mod Commands
pub mod Laws
pub mod Numbers
pub mod PlainWords
pub mod Values
pub mod Words
