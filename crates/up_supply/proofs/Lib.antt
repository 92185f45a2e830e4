pub mod Refused
pub mod Waking
pub mod Filled
pub mod Detaches
pub mod Leaves
pub mod PacketsTaken
