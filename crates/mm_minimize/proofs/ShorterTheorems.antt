-- Shorter proofs of theorems: what they may use, and the files and lists that have them.
pub mod ShorterProofs
pub mod StatementRemarks
pub mod LoneUses
pub mod ComparedAgain
pub mod ShorterLists
pub mod ShortenedFiles
