pub mod AskedWords
pub mod NamedSides
pub mod EachPattern
pub mod LemmaWishes
