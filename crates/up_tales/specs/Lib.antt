pub mod Tales
pub mod Beside
pub mod Plays
pub mod Life
