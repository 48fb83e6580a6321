-- No more are found than are wanted, and they are the first of the changes so far.
use Rattle.std.proofs.Common.{◌≤◌, length, take}
use Rattle.mm_step.specs.Plain.{token_texts}
use Rattle.mm_proof.specs.Parsed.{OfProof}
use Rattle.mm_mend.specs.Mend.{AreFirst, IsMend, most_told}
use Rattle.mm_mend.proofs.search.first_mends.Given as goal

abbrev pub invariant-loop-change : goal.invariant-loop-change
invariant-loop-change l =
    (length l.found.items ≤ most_told)
    × OfProof l.book.statements l.id.0 (λ index s.
    AreFirst (IsMend (take index l.book.statements) s (token_texts l.tokens) l.text) most_told
    (take l.change-index l.changes) l.found.items)
