pub mod Accesses
pub mod Calls
