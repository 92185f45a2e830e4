pub mod Faults
pub mod Handed
pub mod Judging
pub mod Banks
pub mod Replaying
