-- The table of the numbers so far.
use Rattle.mm_with_lemmas.proofs.FoundedTheorems.{AreFormersTo}
use Rattle.mm_with_lemmas.proofs.founded.formers_of.Given as goal

abbrev pub invariant-loop-number : goal.invariant-loop-number
invariant-loop-number l =
    AreFormersTo l.old.statements l.new.statements l.number l.formers.items
