pub mod Illegal
mod Computed
pub mod CallsHanded
pub mod TicketHolders
pub mod OneByOne
pub mod Replayed
pub mod ReplayFinds
