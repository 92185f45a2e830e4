pub mod Span
pub mod Pages
pub mod Asks
pub mod Pieces
