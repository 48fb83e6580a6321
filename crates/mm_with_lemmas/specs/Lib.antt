pub mod Mirror
pub mod Reply
pub mod WithLemmas
