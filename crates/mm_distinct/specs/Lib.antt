pub mod Mirror
pub mod Lacking
pub mod InOrder
