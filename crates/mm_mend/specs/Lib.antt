pub mod Mend
pub mod Reply
