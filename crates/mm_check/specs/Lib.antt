pub mod Reply
pub mod Chain
pub mod Asked
pub mod Alike
pub mod Alone
pub mod AloneLaws
pub mod Told
pub mod KnownNormal
