-- Mirrors of the code: what its lists hold and how they change, in the words of the code. Private
-- clauses alone speak of them, and lemmas join them to the definitions, which are the other files
-- of specs/.
pub mod Asked
pub mod Declaring
pub mod Forgotten
pub mod Further
pub mod Gathered
pub mod Grows
pub mod Latest
pub mod Layout
pub mod NameKey
pub mod NameTable
pub mod Naming
pub mod Patterned
pub mod Scopes
pub mod ScopesOf
pub mod Separated
pub mod ShortPieces
pub mod Sought
pub mod Stated
pub mod Told
pub mod Wide
