-- What theorems rest on, and what rests on them.
pub mod RestsOn
pub mod UsersOf
pub mod SettledTheorems
pub mod AllReports
pub mod FoundedUses
pub mod RowNumbers
