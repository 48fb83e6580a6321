-- What `subtrees`, `sharing` and `packing` make is the fully shared proof, and what is written of
-- a tree proves it. Begin with `PackedTrees`: the listed labels and the codes are the fully shared
-- proof. `SubtreeNumbers`: a number for each distinct row of trees (`same` too). `PackingLoops`:
-- what the loops know. `ChosenSteps`: steps that share what is worth a tag alone, made of those
-- that share all. `WrittenProofs`: a tree's labels, and its packed tokens, are a proof of what it
-- derives, in strict form. Clauses of `compress`, `compress_both` and `same` rest on it, and what
-- `mm_save` writes.
pub mod LabelWidths
pub mod SubtreeNumbers
pub mod PackingLoops
pub mod PackedTrees
pub mod ChosenSteps
pub mod WrittenProofs
