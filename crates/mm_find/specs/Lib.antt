pub mod Shape
pub mod Variant
pub mod Found
pub mod Plain
pub mod Reply
pub mod Mirror
