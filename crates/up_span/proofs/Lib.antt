mod Computed
pub mod Ranges
pub mod Apart
pub mod OfKind
pub mod Places
pub mod Changes
pub mod Outside
