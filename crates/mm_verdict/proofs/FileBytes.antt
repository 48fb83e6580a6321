-- The bytes of files, with others in place of some of them.
pub mod StatementsInFiles
