-- What is kept so far, and what comes from the codes that are left, is all.
use Rattle.std.proofs.Common.{◌≡◌, ◌++◌, drop}
use Rattle.mm_facts.specs.Mirror.Explaining.{step_indices_from}
use Rattle.mm_facts.proofs.step_texts.step_indices.Given as goal

abbrev pub invariant-loop-index : goal.invariant-loop-index
invariant-loop-index l =
    step_indices_from 0 l.said
    ≡ l.indices.items ++ step_indices_from l.index (drop l.index l.said)
