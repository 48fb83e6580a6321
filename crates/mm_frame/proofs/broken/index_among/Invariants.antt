use Rattle.std.proofs.Common.{◌≡◌, ◌<◌, ◌≢◌, ℕ, List, Some, slice_get, map}
use Rattle.mm_frame.proofs.broken.index_among.Given as goal

abbrev pub invariant-loop-index : goal.invariant-loop-index
invariant-loop-index l = (i : ℕ) (x : List ℕ) → i < l.index → slice_get (map (λ token. token.text.now) l.tokens) i ≡ Some x → x ≢ l.text
