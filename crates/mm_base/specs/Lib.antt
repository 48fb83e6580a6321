pub mod MostBytes
pub mod Spelling
pub mod Statement
pub mod Blocks
pub mod Token
pub mod Empty
pub mod Begun
pub mod Seed
