pub mod ReadSteps
pub mod Steps
