pub mod Entering
pub mod Machines
pub mod Machined
pub mod Reliefs
pub mod Keeping
pub mod Standing
