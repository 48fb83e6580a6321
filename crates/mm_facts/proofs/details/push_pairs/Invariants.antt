-- The text so far is that of the pairs so far, whatever their names are.
use Rattle.std.proofs.Common.{◌≡◌, ◌++◌, List, take}
use Rattle.mm_step.specs.Substitution.{Symbol}
use Rattle.mm_facts.specs.Explained.{details_text, pairs_lacking}
use Rattle.mm_facts.specs.Mirror.Explaining.{AreNamedPairs}
use Rattle.mm_facts.proofs.details.push_pairs.Given as goal

abbrev pub invariant-loop-pair : goal.invariant-loop-pair
invariant-loop-pair l =
    (named : List (Symbol × Symbol)) → AreNamedPairs l.book.statements l.pairs named
    → l.out.items ≡ l.fn.out.items ++ details_text (pairs_lacking (take l.pair-index named))
