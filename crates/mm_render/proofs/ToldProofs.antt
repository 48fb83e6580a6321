-- Proofs and statements as they are told.
pub mod SpelledLabels
pub mod ToldTrees
pub mod ComparedTexts
pub mod ShownSteps
pub mod ShownUses
pub mod ToldStatements
