pub mod DatagramPrints
pub mod Printings
pub mod ReadingPrints
pub mod Shows
pub mod StreamShows
