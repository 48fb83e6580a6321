-- Those so far are.
use Rattle.std.proofs.Common.{◌≡◌, ◌<◌, ℕ, Some, slice_get}
use Rattle.mm_minimize.specs.declared.remarks.Remark.{Remark}
use Rattle.mm_with_lemmas.specs.Mirror.Remarking.{IsRemarkKept}
use Rattle.mm_with_lemmas.proofs.remarked.are_all_kept.Given as goal

abbrev pub invariant-loop-number : goal.invariant-loop-number
invariant-loop-number l =
    (i : ℕ) (r : Remark) → i < l.number → slice_get l.fn.others i ≡ Some r
    → IsRemarkKept l.fn.old.statements l.fn.new.statements l.fn.remarks i r
