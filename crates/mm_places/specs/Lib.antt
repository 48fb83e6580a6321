pub mod Mirror
pub mod Places
pub mod WholePlaces
pub mod StepLetters
