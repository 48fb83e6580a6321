pub mod ToldProofs
pub mod SavedProofs
