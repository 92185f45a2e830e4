pub mod PieceAt
pub mod AnswersKeep
pub mod AfterWishes
pub mod StandingWishes
pub mod CourseTold
pub mod CourseRules
pub mod BroughtFrames
mod Stepping
