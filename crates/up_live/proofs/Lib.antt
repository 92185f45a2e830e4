pub mod Going
pub mod Acting
pub mod Stepping
pub mod SyncLaws
pub mod Toured
pub mod Stilling
pub mod SyncSteps
