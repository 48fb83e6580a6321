-- Mirrors of the code: what its parts keep and answer, in the words of the code. Private clauses
-- alone speak of them, and lemmas join them to the definitions, which are the other files of
-- specs/.
pub mod Theorems
pub mod Comparisons
pub mod Rewriting
pub mod Judged
pub mod Visits
pub mod Reached
pub mod Rereading
pub mod Taking
