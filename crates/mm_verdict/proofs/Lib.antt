pub mod Verdicts
pub mod Questions
pub mod ReplyTexts
pub mod FileBytes
pub mod AlikeVerdicts
