pub mod ReadSteps
pub mod Fronts
pub mod Decimals
pub mod Hex
pub mod Counts
pub mod Pieces
pub mod ByteLists
