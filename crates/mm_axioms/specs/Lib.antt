pub mod Reply
pub mod Users
pub mod Accepted
pub mod Chains
pub mod Essential
pub mod AllAxioms
pub mod Mirror
