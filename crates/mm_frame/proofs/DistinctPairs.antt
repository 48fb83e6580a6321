-- The pairs of variables that `$d` state.
-- `StatedPairs` first: which pairs are distinct at an index, by the pairs that were stated.
-- `AddedPairs` is what one `$d` more adds, and how its pairs are linked with those before.
-- `Frame::distinct` and what `Book::take` writes of a `$d` rest on them.
pub mod StatedPairs
pub mod AddedPairs
