pub mod Spacing
pub mod Values
pub mod Listed
pub mod Rows
pub mod Sentences
pub mod Bounds
pub mod OneText
