pub mod Shared
pub mod Mirror
