pub mod Help
pub mod Explained
pub mod Pages
