-- What the machines of this crate have made of the moves so far, for the one loop over moves
-- (`machine` of `mm_proof`). `NextMoves`: the next of them. Begin with `ListedLines`: the lister; `ToldLines`: what its lines tell,
-- some without their expressions. `StackOrigins`: the tracker,
-- which knows what step made each entry of the stack; `ProofHalts`: where moves stop; `StepOperands`
-- and `StepSources`: which steps gave a step its hypotheses, and what a tag stands for; `StepUses`:
-- the linker, which knows what each step uses, and its roots; `ReachedSteps`: which steps are reached
-- from these. Clauses of `listing`, `halt_of` and `uses_of` rest on it.
pub mod NextMoves
pub mod ToldLines
pub mod ListedEnd
pub mod ListedLines
pub mod StackOrigins
pub mod ProofHalts
pub mod StepOperands
pub mod StepSources
pub mod StepUses
pub mod ReachedSteps
