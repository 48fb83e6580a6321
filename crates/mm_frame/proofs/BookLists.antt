-- The lists of a book hold its statements: the book's invariant.
-- `GrownLists` first: what the lists say stays as more is written behind it, and they hold one
-- statement more where each list does. Then a file for each sort of statements that are taken in,
-- on which `ok` and `unchanged` of `Book::take` rest; `ReadLabels` is what `Book::find`,
-- `label`, `kind` and `frame` read of them.
pub mod GrownLists
pub mod SymbolsAndLabels
pub mod Declarations
pub mod UnlabelledStatements
pub mod LabelledStatements
pub mod ReadLabels
