pub mod Asking
pub mod Laws
pub mod Keeps
pub mod Standing
