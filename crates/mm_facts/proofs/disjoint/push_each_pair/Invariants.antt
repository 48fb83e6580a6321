-- The text so far is that of the pairs so far, whatever replaces their members.
use Rattle.std.proofs.Common.{take}
use Rattle.mm_step.specs.Stores.{entries_in}
use Rattle.mm_facts.specs.Mirror.Explaining.{AddsPairs}
use Rattle.mm_facts.proofs.disjoint.push_each_pair.Given as goal

abbrev pub invariant-loop-pair : goal.invariant-loop-pair
invariant-loop-pair l =
    AddsPairs l.book.statements l.id.0 l.rule (entries_in l.entries) (take l.pair-index l.pairs) l.fn.out.items l.out.items
