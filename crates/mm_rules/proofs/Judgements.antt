-- The judgement of one statement after the other.
pub mod CompleteProofs
pub mod JudgedProofs
