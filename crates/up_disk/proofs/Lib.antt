pub mod Contents
pub mod Stands
pub mod WritesAndSyncs
