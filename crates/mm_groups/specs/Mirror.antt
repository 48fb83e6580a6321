-- What the code keeps and answers on the way, in the words of the code. Private clauses alone speak
-- of it, and lemmas join it to the definitions.
pub mod Sets
pub mod Counted
pub mod Kept
