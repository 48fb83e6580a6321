-- What is told of one proof that is at fault, incomplete or tried.
pub mod LoneTheorems
pub mod TriedTokens
pub mod FoundStatements
