pub mod AllSaved
pub mod Mirror
