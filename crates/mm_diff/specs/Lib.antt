pub mod Diff
pub mod Reply
pub mod Laws
pub mod Mirror
