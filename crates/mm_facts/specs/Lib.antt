pub mod Mirror
pub mod StepTexts
pub mod Explained
pub mod Lettered
pub mod Why
pub mod MeaningFacts
