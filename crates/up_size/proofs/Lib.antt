pub mod Blanked
pub mod Events
pub mod Zeroes
pub mod Resizes
