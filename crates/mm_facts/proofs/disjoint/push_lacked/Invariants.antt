-- The text so far is that of the pairs so far, whatever their names are.
use Rattle.std.proofs.Common.{◌≡◌, ◌++◌, List, take, map}
use Rattle.mm_step.specs.Substitution.{Symbol}
use Rattle.mm_facts.specs.Explained.{details_text, step_lacks}
use Rattle.mm_facts.specs.Mirror.Explaining.{AreNamedPairs}
use Rattle.mm_facts.proofs.disjoint.push_lacked.Given as goal

abbrev pub invariant-loop-pair : goal.invariant-loop-pair
invariant-loop-pair l =
    (named : List (Symbol × Symbol)) → AreNamedPairs l.book.statements l.pairs named
    → l.out.items ≡ l.fn.out.items ++ details_text (map (λ p. step_lacks p.0 p.1) (take l.pair-index named))
