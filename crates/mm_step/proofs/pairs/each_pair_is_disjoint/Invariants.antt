use Rattle.std.proofs.Common.{ℕ, ◌<◌, ◌≡◌, Some, drop, take, slice_get}
use Rattle.mm_step.specs.Tree.{AreDistinct}
use Rattle.mm_frame.specs.Pieces.{variables_of}
use Rattle.mm_step.specs.Mirror.CodeVerify.{names_at, value_of, pairs_in, EachValues}
use Rattle.mm_step.proofs.pairs.each_pair_is_disjoint.Given as goal

abbrev pub invariant-loop-pair : goal.invariant-loop-pair
invariant-loop-pair g l =
    (k : ℕ) (p : ℕ × ℕ) → k < l.pair-index → slice_get (pairs_in l.signature.pairs.now) k ≡ Some p
    → EachValues (value_of (variables_of l.signature.hypotheses.now) (drop l.base (g.S.Store.stack l.store))) p.0 p.1
    (λ e f. AreDistinct (take l.fn.own.index l.fn.book.statements) (names_at l.fn.book.statements e) (names_at l.fn.book.statements f))
