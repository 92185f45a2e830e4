pub mod Places
pub mod Lookback
pub mod Begins
