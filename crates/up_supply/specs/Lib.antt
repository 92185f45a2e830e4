pub mod Calls
pub mod Fillings
