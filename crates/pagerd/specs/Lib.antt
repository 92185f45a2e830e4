pub mod Text
pub mod Built
pub mod Journals
pub mod Generated
pub mod Outsides
pub mod Commands
pub mod Outputs
pub mod Top
