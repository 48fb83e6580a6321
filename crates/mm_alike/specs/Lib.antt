pub mod Alike
pub mod Mirror
