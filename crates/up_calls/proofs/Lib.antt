pub mod FrameForms
pub mod CallForms
pub mod CallBounds
pub mod OneRow
