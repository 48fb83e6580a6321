-- What a builder makes is what stands for the trees of the moves.
pub mod Building
pub mod TreeWords
