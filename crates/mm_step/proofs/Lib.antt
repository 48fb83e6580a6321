pub mod StoreRanges
pub mod ProofSteps
pub mod ByNumbers
