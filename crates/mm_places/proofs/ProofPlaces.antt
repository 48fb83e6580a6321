-- Where a move stands, where a rule over the whole of a proof is broken, and where one isn't
-- strict; and the letters of each step.
pub mod MovePlaces
pub mod SomePlaces
pub mod PlaceTable
pub mod WholePlaces
pub mod FormPlaces
pub mod StepLetters
