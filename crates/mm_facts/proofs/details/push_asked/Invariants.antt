-- What the hypotheses so far ask, however the moves stop and whatever the step meets.
use Rattle.std.proofs.Common.{List, ℕ, Bool, take}
use Rattle.mm_frame.specs.Sentence.{Sentence}
use Rattle.mm_step.specs.Moves.{Move, name}
use Rattle.mm_step.specs.Steps.{IsProofNumber, IsNumberedMove}
use Rattle.mm_step.specs.Proof.{MeetsHypotheses}
use Rattle.mm_listing.specs.Halted.{HaltsProof}
use Rattle.mm_facts.specs.Mirror.Explaining.{AskedSoFar, told_steps}
use Rattle.mm_facts.proofs.details.push_asked.Given as goal

abbrev pub invariant-loop-index : goal.invariant-loop-index
invariant-loop-index l =
    (limit index : ℕ) (s : Sentence) (prefix : Bool) (moves : List (Move (List ℕ))) (label : List ℕ)
    → IsProofNumber l.book.statements l.id.0 index s
    → (h : HaltsProof limit l.book.statements (take index l.book.statements) s prefix moves l.stop.halt)
    → IsNumberedMove l.book.statements (name l.label.0) (name label)
    → (m : MeetsHypotheses (take index l.book.statements) h.there.stack label)
    → AskedSoFar l.unmet (take index l.book.statements) h.there.stack (told_steps l.stop) label m
    l.index l.fn.out.items l.out.items
