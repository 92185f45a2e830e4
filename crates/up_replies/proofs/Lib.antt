pub mod ReplyForms
pub mod ReplyBounds
pub mod OneRow
