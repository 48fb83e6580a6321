pub mod Lists
pub mod TokensByByte
pub mod TokensFrom
pub mod NoneThere
pub mod LabelBytes
