pub mod Limits
pub mod Versions
pub mod Text
pub mod Reading
pub mod Allowed
pub mod Laws
