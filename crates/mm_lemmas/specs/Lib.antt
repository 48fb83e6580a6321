pub mod Told
pub mod Mirror
