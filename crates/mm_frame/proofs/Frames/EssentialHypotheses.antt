-- Which hypotheses of a frame are essential: those without a typing.
use Rattle.std.proofs.Common.{◌≡◌, ℕ, ◌<◌, ◌≤◌, List, map, take, length, slice_get, get_or}
use Rattle.std.proofs.Common.{true, false, Option, Some, None, is_some, sym, ap, subst, arith}
use Rattle.std.proofs.lemmas.List.{length-map, take_all}
use Rattle.std.proofs.lemmas.Option.{slice_get-get_or}
use Rattle.mm_base.proofs.Lists.{one_there, same_length}
use Rattle.mm_frame.specs.declared.hypothesis.Hypothesis.{Hypothesis}
use Rattle.mm_frame.specs.declared.number.Sym.{Sym}
use Rattle.mm_frame.specs.FrameIndex.{HasTyping, IsTypingOf}
use Rattle.mm_frame.specs.Numbers.{labelled_sentences}
use Rattle.mm_frame.specs.Sentence.{Sentence, is_essential}
use Rattle.mm_frame.proofs.Names.NameNumbers.{get_alike, get_mapped}

-- what stands behind a hypothesis at an index
pub hypothesis_there : (all : List Sentence) (hypotheses : List Hypothesis) (stated : List Sentence)
    (i : ℕ) (d : Hypothesis) → map (slice_get all) (map (λ h. h.id.0) hypotheses) ≡ map Some stated
    → i < length hypotheses
    → (s : Sentence) × (slice_get stated i ≡ Some s) × (slice_get all (get_or hypotheses i d).id.0
    ≡ Some s)
hypothesis_there all hypotheses stated i d same less =
    let number : Hypothesis → ℕ = λ h. h.id.0 in
    let at = get_mapped number hypotheses i (get_or hypotheses i d)
    (slice_get-get_or hypotheses i d less) in
    let (s, there, is) = get_alike (slice_get all) (λ (t : Sentence). Some t)
    (map number hypotheses) stated i
    (number (get_or hypotheses i d)) same at in
    (s, there, sym is)

-- by whether it has a typing
typed_kind : (st : List Sentence) (typing : Option (Sym × Sym)) (s : Sentence)
    → IsTypingOf st typing s
    → (is_some typing ≡ false → is_essential s.kind ≡ true)
    × (is_some typing ≡ true → is_essential s.kind ≡ false)
typed_kind st None s is = ((λ e. ap is_essential is), (λ e. absurd cc))
typed_kind st (Some typing) s (code, x, types, at_code, at_x) =
    ((λ e. absurd cc), (λ e. ap is_essential types.0))

pub essential_kind : (st : List Sentence) (h : Hypothesis) (s : Sentence) → HasTyping st h
    → slice_get (labelled_sentences st) h.id.0 ≡ Some s
    → (is_some h.typing ≡ false → is_essential s.kind ≡ true)
    × (is_some h.typing ≡ true → is_essential s.kind ≡ false)
essential_kind st h s (t, there, typing) at =
    let same : t ≡ s = one_there (labelled_sentences st) h.id.0 t s there at in
    typed_kind st h.typing s (subst (IsTypingOf st h.typing) same typing)

-- all hypotheses
pub all_stated : (all : List Sentence) (hypotheses : List Hypothesis) (stated : List Sentence)
    (i : ℕ)
    → map (slice_get all) (map (λ h. h.id.0) hypotheses) ≡ map Some stated
    → length hypotheses ≤ i → take i stated ≡ stated
all_stated all hypotheses stated i are end =
    take_all i stated
    (omega (
      arith,
      same_length (slice_get all) (λ (s : Sentence). Some s)
          (map (λ (h : Hypothesis). h.id.0) hypotheses) stated are,
      length-map hypotheses (λ (h : Hypothesis). h.id.0),
      end,
    ))
