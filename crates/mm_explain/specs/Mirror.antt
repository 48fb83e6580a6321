-- Mirrors of the code: what its parts keep and answer, in the words of the code. Private clauses
-- alone speak of them, and lemmas join them to the definitions, which are the other files of
-- specs/.
pub mod Reached
pub mod Reasons
pub mod Outlined
pub mod Standing
pub mod Offered
pub mod SemanticErrors
pub mod Stated
pub mod Last
