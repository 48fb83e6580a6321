-- Mirrors of the code: what its lists hold and how they change, in the words of the code. Private
-- clauses alone speak of them, and lemmas join them to the definitions, which are the other files
-- of specs/.
pub mod CodeLetters
pub mod CodePlaces
pub mod CodeWhole
