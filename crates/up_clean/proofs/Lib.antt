pub mod Pages
pub mod Counts
pub mod Events
