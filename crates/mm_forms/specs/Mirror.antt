-- Mirrors of the code: what its lists hold and how they change, in the words of the code. Private
-- clauses alone speak of them, and lemmas join them to the definitions, which are the other files
-- of specs/.
pub mod Builders
pub mod CodeChosen
pub mod CodeSharing
pub mod CodeSmall
pub mod SharedSteps
pub mod Subtrees
pub mod Words
