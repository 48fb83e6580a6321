-- Laws of files in which proofs are written anew.
pub mod LineEnds
pub mod ProofTexts
pub mod SpanTexts
pub mod AnyNewProof
pub mod OtherStatements
pub mod NewProofs
pub mod PutProofs
pub mod SavedOnce
pub mod RisingSpans
pub mod SpansReplaced
pub mod ProofsInTurn
pub mod AllSavedFiles
pub mod ShortenedProofs
pub mod ShortenedRests
pub mod ShortenedAnswers
