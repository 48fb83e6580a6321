-- Symbols and labels by number.
-- `NameNumbers` first: each name stands once in a list, and keeps its number as names are added.
-- `NameTables` is how a name is found by its bytes, `LabelNumbers` the same of labels: `Book::name`,
-- `Book::label` and the law `one_number` rest on them.
pub mod NameNumbers
pub mod NameTables
pub mod LabelNumbers
