-- None of the labels so far is to blame.
use Rattle.std.proofs.Common.{ℕ, List, take, Contains}
use Rattle.mm_step.specs.Plain.{token_texts}
use Rattle.mm_places.specs.Mirror.CodeWhole.{IsBlamed}
use Rattle.mm_places.proofs.whole_places.first_blamed.Given as goal

abbrev pub invariant-loop-index : goal.invariant-loop-index
invariant-loop-index l =
    (other : List ℕ) → Contains (take l.index (token_texts l.labels)) other
    → ¬ (IsBlamed l.blame l.book.statements l.own.index other)
