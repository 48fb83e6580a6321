pub mod FirstMends
pub mod JudgedChanges
pub mod TriedChanges
pub mod ToldChanges
pub mod MendedTheorems
