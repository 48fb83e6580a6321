pub mod SmallProofLaws
