pub mod Kinds
pub mod Frames
pub mod Text
pub mod Calls
pub mod Allowed
pub mod Laws
