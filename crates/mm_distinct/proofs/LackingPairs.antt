-- The `$d` statements that a proof lacks. `WithPairs`: what changes, and what doesn't, where `$d`
-- statements are put behind others. `FoundPairs`: the lists of missing pairs, by numbers.
-- `LackingSteps`: the step by a label, with such `$d` statements. `PastedPairs`: they break no rule
-- of meaning. `LackingMoves`: all moves, and what is told at the end. Clauses of `lacking_pairs`
-- rest on it.
pub mod WithPairs
pub mod FoundPairs
pub mod LackingSteps
pub mod PastedPairs
pub mod LackingMoves
