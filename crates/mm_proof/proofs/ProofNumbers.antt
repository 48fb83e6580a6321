-- Labels, moves and symbols of a proof, by numbers and by names. Begin with `NumberedLabels`:
-- labels by their numbers, and a whole proof at its statement's. `DeclaredSymbols`: the symbols of
-- the entries are declared. `UsedAssertions`: the assertions of a tree are those of the moves that
-- make it. What one step does by numbers is in `ByNumbers` of `mm_step`.
pub mod DeclaredSymbols
pub mod NamedAssertions
pub mod NumberedLabels
pub mod UsedAssertions
pub mod NumbersNamed
pub mod Insertions
pub mod MoreLabels
pub mod ZippedLists
