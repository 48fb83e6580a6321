-- Mirrors of the code: what its parts compare and tell, in the words of the code. Private clauses
-- alone speak of them, and lemmas join them to the definitions, which are the other files of
-- specs/.
pub mod Outcomes
pub mod Changes
pub mod Twins
pub mod Depends
