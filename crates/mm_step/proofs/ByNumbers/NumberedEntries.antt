-- The index of an entry is that of its call, and what the entry there stands for.
use Rattle.std.proofs.Common.{◌≡◌, ℕ, ◌<◌, List, length}
use Rattle.std.proofs.Common.{slice_get, Some}
use Rattle.std.proofs.Common.{sym, subst, ◌∙◌, get_or}
use Rattle.std.specs.List.{AllZip}
use Rattle.std.proofs.lemmas.Option.{same_Some, slice_get-get_or}
use Rattle.std.proofs.lemmas.Option.{slice_get_within}
use Rattle.mm_base.proofs.Lists.{zip_left}
use Rattle.mm_frame.specs.Sentence.{Sentence}
use Rattle.mm_step.specs.Mirror.CodeSteps.{MayBeUsed}
use Rattle.mm_step.specs.declared.call.Call.{Call}
use Rattle.mm_step.specs.Mirror.CodeApply.{IsCallOf, MayBeCalled}

-- ---- entries

-- the index of an entry is that of a call
pub call_within : (st : List Sentence) (at : ℕ) (ids : List ℕ) (calls : List Call) (index id : ℕ) → AllZip (MayBeCalled st at) ids calls → slice_get ids index ≡ Some id → index < length calls
call_within st at ids calls index id all there =
    let h = zip_left (MayBeCalled st at) ids calls index id all there in slice_get_within calls index h.0 h.1

-- what the entry there stands for, where it may be used
pub call_there : (st : List Sentence) (at : ℕ) (ids : List ℕ) (calls : List Call) (index own id : ℕ) (label : List ℕ) (d : Call) → AllZip (MayBeCalled st at) ids calls → slice_get ids index ≡ Some own
    → MayBeUsed st at label own → slice_get ids index ≡ Some id → IsCallOf st at id (get_or calls index d)
call_there st at ids calls index own id label d all there used also =
    let h = zip_left (MayBeCalled st at) ids calls index own all there in
    let less = slice_get_within calls index h.0 h.1 in
    let same : h.0 ≡ get_or calls index d = same_Some h.0 (get_or calls index d) (sym h.1 ∙ slice_get-get_or calls index d less) in
    let one : own ≡ id = same_Some own id (sym there ∙ also) in
    subst (λ k. IsCallOf st at k (get_or calls index d)) one (subst (IsCallOf st at own) same (h.2 label used))
