pub mod Mirror
pub mod Listing
pub mod Halted
pub mod Uses
