pub mod CallsLeft
pub mod Content
pub mod Images
pub mod PowerLoss
pub mod State
