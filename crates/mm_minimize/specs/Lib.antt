pub mod AllShorter
pub mod Remarks
pub mod Mirror
