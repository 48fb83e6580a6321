pub mod FormLaws
pub mod SavedLaws
pub mod AllSavedLaws
pub mod AllShorterLaws
