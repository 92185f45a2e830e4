pub mod Sets
pub mod Claimed
pub mod Listed
pub mod Sited
pub mod Slots
