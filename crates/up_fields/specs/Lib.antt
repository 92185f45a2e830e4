pub mod Limits
pub mod Text
pub mod Fields
pub mod Allowed
pub mod Laws
