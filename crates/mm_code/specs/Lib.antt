pub mod Letters
pub mod LetterCount
pub mod Layout
pub mod SmallLayout
pub mod Mirror
pub mod Words
