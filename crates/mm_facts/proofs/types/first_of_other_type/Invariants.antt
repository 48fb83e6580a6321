-- The entries so far begin with the type codes of their hypotheses.
use Rattle.mm_step.specs.Stores.{entries_in}
use Rattle.mm_facts.specs.Mirror.Explaining.{HaveOwnCodes}
use Rattle.mm_facts.proofs.types.first_of_other_type.Given as goal

abbrev pub invariant-loop-index : goal.invariant-loop-index
invariant-loop-index l = HaveOwnCodes l.hypotheses (entries_in l.entries) l.index
