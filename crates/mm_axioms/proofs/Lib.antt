pub mod WordBits
pub mod WordSets
pub mod ScratchWords
pub mod RowBounds
pub mod Resting
pub mod AcceptedProofs
pub mod ShortestChains
pub mod TypeCodes
