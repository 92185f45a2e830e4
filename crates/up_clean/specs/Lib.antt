pub mod Ends
pub mod Dirties
