-- Mirrors of the code: what its parts keep and answer, in the words of the code. Private clauses
-- alone speak of them, and lemmas join them to the definitions, which are the other files of
-- specs/.
pub mod Editing
pub mod Walking
pub mod Using
pub mod Remarking
pub mod Founding
