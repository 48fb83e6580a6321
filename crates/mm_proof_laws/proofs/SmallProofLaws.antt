-- Small proofs: that there is one, and that it has the fewest letters.
pub mod SomeSmallProof
pub mod FewestLetters
