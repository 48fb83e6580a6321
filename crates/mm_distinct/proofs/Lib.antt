pub mod AskedByNumbers
pub mod LackingPairs
pub mod TurnedPairs
