pub mod Answer
pub mod Ending
pub mod Folder
pub mod Notes
pub mod Versions
pub mod Noted
pub mod ReadFiles
pub mod Progress
