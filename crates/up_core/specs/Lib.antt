pub mod Enough
pub mod Groups
pub mod Needs
pub mod Requests
pub mod Running
