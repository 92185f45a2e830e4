pub mod HeldCounts
pub mod Places
pub mod PagesTaken
pub mod OneMore
pub mod FramesOfPages
