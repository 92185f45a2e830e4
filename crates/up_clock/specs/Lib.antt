pub mod Known
pub mod Ticks
pub mod Laws
