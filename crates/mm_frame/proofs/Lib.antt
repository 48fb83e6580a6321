pub mod Blocks
pub mod Names
pub mod Rules
pub mod DistinctPairs
pub mod Frames
pub mod BookLists
