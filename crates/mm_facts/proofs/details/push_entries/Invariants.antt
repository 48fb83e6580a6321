-- The text so far is that of the entries so far, however the moves stop.
use Rattle.std.proofs.Common.{◌≡◌, ◌++◌, List, ℕ, Bool, take}
use Rattle.mm_frame.specs.Sentence.{Sentence}
use Rattle.mm_step.specs.Moves.{Move}
use Rattle.mm_listing.specs.Halted.{HaltsProof}
use Rattle.mm_facts.specs.Explained.{details_text, entries_given}
use Rattle.mm_facts.specs.Mirror.Explaining.{told_steps}
use Rattle.mm_facts.proofs.details.push_entries.Given as goal

abbrev pub invariant-loop-index : goal.invariant-loop-index
invariant-loop-index l =
    (limit : ℕ) (before : List Sentence) (s : Sentence) (prefix : Bool) (moves : List (Move (List ℕ)))
    → (h : HaltsProof limit l.book.statements before s prefix moves l.stop.halt)
    → l.out.items ≡ l.fn.out.items
    ++ details_text (entries_given (take l.index (told_steps l.stop)) (take l.index h.there.stack))
