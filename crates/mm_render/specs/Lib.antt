pub mod Shorter
pub mod Shown
pub mod ShownUses
pub mod Forms
pub mod Compared
pub mod Saved
pub mod Mirror
