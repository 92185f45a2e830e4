pub mod Kinds
pub mod Text
pub mod Replies
pub mod Allowed
pub mod Laws
