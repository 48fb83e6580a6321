-- That each proof has one verdict: it is proved, or it has one first fault, its rule and its step.
-- Begin with `FirstFault`: a row of moves has one verdict, as a proof and as a prefix of one, and
-- how the code finds the first rule that a move breaks. `ProfileVerdicts` says the same of tokens
-- under a profile, `StrictForm` of the form that the strict profile demands. `VerdictLaws`: what
-- limits change. The laws `one_verdict_under`, `one_prefix_verdict_under` and `limits_aside`
-- rest on it, and with them `verify` and `Prover::prove`.
pub mod PassedMoves
pub mod FirstFault
pub mod VerdictLaws
pub mod ProfileVerdicts
pub mod StrictForm
pub mod JudgedMoves
