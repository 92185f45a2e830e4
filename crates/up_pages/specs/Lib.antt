pub mod Frames
pub mod Pages
pub mod Runs
pub mod Laws
