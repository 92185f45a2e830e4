pub mod ReadSteps
pub mod Words
pub mod Numbers
pub mod Names
pub mod Refusals
pub mod Runs
pub mod Laws
