-- Files in which other bytes stand between the `$=` and the `$.` of a statement are read as the
-- same statements, but for that proof and for positions. Begin with `ReplacedFiles`, whose last
-- lemma is the law `replaced_proofs_are_read`. On `ProofSpans` rest `proofs_stand_in_spans` and
-- `proof_spans_follow`. The laws of saved files in `mm_laws` stand on these.
pub mod ReplacedItems
pub mod ReplacedReading
pub mod ReplacedProofs
pub mod ProofSpans
pub mod ReplacedFiles
