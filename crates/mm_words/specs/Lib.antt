pub mod CommandLine
pub mod Words
pub mod RefusedWords
pub mod Unread
