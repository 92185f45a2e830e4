pub mod Cause
pub mod Front
pub mod InMemory
pub mod Streams
