pub mod Members
pub mod ProofVerdicts
pub mod ProofNumbers
pub mod ProofTokens
