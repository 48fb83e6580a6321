-- Mirrors of the code: what its parts compare and tell, in the words of the code. Private clauses
-- alone speak of them, and lemmas join them to the definitions, which are the other files of
-- specs/.
pub mod Differences
pub mod Homes
pub mod Names
pub mod Steps
pub mod Databases
