-- Small proofs: labels by use, of the sharing that has fewer letters. Begin with `OneSmallProof`: a
-- list by use is one, so a tree has one small proof at most, which has the strict form.
-- `UsedLabels`: how often moves use labels, and which first. `UseLoops`: what the loops of `small`
-- know. `ListedByUse`, `SmallTrees`: what it makes of a packed proof is the small one.
-- `WrittenSmallProofs`: its tokens are a proof, in strict form. Clauses of `compress_small` rest on
-- this room, and the laws on small proofs in `mm_proof_laws`.
pub mod UsedLabels
pub mod OneSmallProof
pub mod UseLoops
pub mod ListedByUse
pub mod SmallTrees
pub mod WrittenSmallProofs
