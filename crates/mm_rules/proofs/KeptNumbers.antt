-- What is kept of proofs, by the numbers of labels.
pub mod LabelsAmong
pub mod KeptUses
