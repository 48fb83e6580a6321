-- Bytes in which several spans are replaced, each behind those before it: in turn what is kept and
-- the texts. A span before the others may be replaced after them, and what stands behind a span is
-- kept where it moves to.
use Rattle.std.proofs.Common.{◌≡◌, ℕ, List, [], ◌∷◌, ◌++◌, drop}
use Rattle.std.proofs.Common.{slice_range, sym, ap, ◌∙◌, append_assoc, append-nil}
use Rattle.mm_save.specs.AllSaved.{Replacement, replaced_from, with_replaced}
use Rattle.mm_save.specs.Mirror.AllSaving.{AreReplacedUpTo}

-- ---- from the first span on

pub replaced_on : (at : ℕ) (source : List ℕ) (news : List Replacement) (bytes : List ℕ)
    (new : Replacement) → AreReplacedUpTo at source news bytes
    → AreReplacedUpTo new.span.1 source (news ++ new ∷ [])
    (bytes ++ (slice_range source at new.span.0 ++ new.text))
replaced_on at source news bytes new up_to more =
    let kept : List ℕ = slice_range source at new.span.0 in
    let rest : List ℕ = replaced_from new.span.1 source more in
    ap (with_replaced source) (append_assoc news (new ∷ []) more) ∙ up_to (new ∷ more)
    ∙ ap (λ (l : List ℕ). bytes ++ l) (sym (append_assoc kept new.text rest))
    ∙ sym (append_assoc bytes (kept ++ new.text) rest)

-- what stands behind the last of them is kept
pub all_replaced : (at : ℕ) (source : List ℕ) (news : List Replacement) (bytes : List ℕ)
    → AreReplacedUpTo at source news bytes → bytes ++ drop at source ≡ with_replaced source news
all_replaced at source news bytes up_to =
    sym (up_to []) ∙ ap (with_replaced source) (append-nil news)
