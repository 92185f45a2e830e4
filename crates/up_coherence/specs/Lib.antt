pub mod Coherent
pub mod StepPremises
pub mod Laws
pub mod Durable
pub mod Histories
pub mod Promises
