pub mod Pools
pub mod Soles
pub mod Paired
