-- Blocks: which are open, and which statements are active.
-- `NumberedBlocks` first: each block has a number, a beginning, an end and a holder, and this
-- stays so as statements are added. `ActiveStatements` and `ScopeStack` tell from these numbers
-- what is active: the clauses of `Frame::active` and `Book::depth` rest on them, and the law
-- `open_count` on `OpenCounts`.
pub mod NumberedBlocks
pub mod ActiveStatements
pub mod OpenCounts
pub mod ScopeStack
