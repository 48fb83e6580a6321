use Rattle.std.proofs.Common.{◌≡◌, ℕ, ◌<◌, slice_get, Some}
use Rattle.mm_step.specs.Moves.{mark}
use Rattle.mm_proof.specs.Mirror.CodeSteps.{moves_of}
use Rattle.mm_proof.specs.Mirror.CodeForm.{IsAfterAssertion}
use Rattle.mm_proof.proofs.form.loose_mark.Given as goal

abbrev pub invariant-loop-index : goal.invariant-loop-index
invariant-loop-index l = (k : ℕ) → k < l.index → slice_get (moves_of l.entries l.codes) k ≡ Some mark → IsAfterAssertion l.fn.book.statements (moves_of l.entries l.codes) k
