-- Bytes with changes, place by place: each stands behind those before it.
use Rattle.std.proofs.Common.{◌≡◌, ℕ, ◌+◌, ◌<◌, ◌≤◌, List, [], ◌∷◌, ◌++◌, length, take, drop}
use Rattle.std.proofs.Common.{slice_get, slice_range, Some, inl, inr, refl, sym, ap, subst, ◌∙◌, arith}
use Rattle.std.proofs.Common.{append_assoc, Bor, get_or, None, Option, take_all, ◌≢◌}
use Rattle.std.specs.Prelude.{IfSome, MatchOption}
use Rattle.std.proofs.lemmas.List.{map-append}
use Rattle.std.proofs.lemmas.List.Elements.{All-contains, All-nil, All-push, All-weaker}
use Rattle.std.proofs.lemmas.Option.{none-some, slice_get_within}
use Rattle.std.proofs.lemmas.Slice.{between_to_end}
use Rattle.mm_base.proofs.Lists.{contains_from_at, get_before, pushed_cases}
use Rattle.mm_proof.proofs.ProofNumbers.MoreLabels.{one_more}
use Rattle.mm_save.specs.AllSaved.{Replacement, with_replaced}
use Rattle.mm_save.specs.Mirror.AllSaving.{AreReplacedUpTo}
use Rattle.mm_with_lemmas.specs.WithLemmas.{AreApart}
use Rattle.mm_save.proofs.Saving.ReplacedSpans.{all_replaced, replaced_on}
use Rattle.mm_with_lemmas.specs.declared.change.Change.{Change}
use Rattle.mm_with_lemmas.specs.Mirror.Editing.{IsEditedUpTo, place_of, places_of}

-- ---- places that stand apart

-- a place stands in its order, and before a position
abbrev EndsBy : (count : ℕ) → Replacement → Type 0
EndsBy count p = (p.span.0 ≤ p.span.1) × (p.span.1 ≤ count)

pub apart_none : AreApart 0 []
apart_none = record {
  behind = λ i j a b less at_i at_j. absurd (none-some a at_i);
  within = All-nil (EndsBy 0);
}

ends_later : (count most : ℕ) → count ≤ most → (places : List Replacement) → AreApart count places
    → (i : ℕ) (p : Replacement) → slice_get places i ≡ Some p → p.span.1 ≤ most
ends_later count most less places h i p there =
    let ends = (All-contains (EndsBy count) places p h.within
    (contains_from_at places p (i, there))).1 in
    omega arith

pub apart_within : (count most : ℕ) (places : List Replacement) → AreApart count places
    → count ≤ most → AreApart most places
apart_within count most places h less = record {
  behind = h.behind;
  within = All-weaker (EndsBy count) (EndsBy most)
      (λ p ends. (ends.0, let stop = ends.1 in omega arith)) places h.within;
}

-- one more behind them
pub apart_more : (count : ℕ) (places : List Replacement) (p : Replacement) → AreApart count places
    → count ≤ p.span.0 → p.span.0 ≤ p.span.1 → AreApart p.span.1 (places ++ p ∷ [])
apart_more count places p h after order = record {
  behind = λ i j a b less at_i at_j. elim (pushed_cases places p j b at_j) [
    | inl before ↦
        let within = slice_get_within places j b before in
        h.behind i j a b less (get_before places (p ∷ []) i a (omega arith) at_i) before
    | inr (last, same) ↦
        let earlier = get_before places (p ∷ []) i a (omega arith) at_i in
        let ends = ends_later count p.span.0 after places h i a earlier in
        let start = ap (λ (r : Replacement). r.span.0) same in
        omega arith
  ];
  within = All-push (EndsBy p.span.1) places p
      (apart_within count p.span.1 places h (omega arith)).within (order, omega arith);
}

-- ---- the bytes so far

pub edited_none : (source bytes : List ℕ) → IsEditedUpTo source [] 0 bytes bytes
edited_none source bytes = record {
  within = omega arith;
  apart = apart_none;
  before = [];
  up_to = λ more. refl;
  whole = refl;
}

-- one more change
pub edited_on : (source : List ℕ) (done : List Change) (change : Change) (taken : ℕ)
    (bytes rest others : List ℕ) → IsEditedUpTo source done taken bytes rest
    → taken ≤ (place_of change).span.0 → (place_of change).span.0 ≤ (place_of change).span.1
    → (place_of change).span.1 ≤ length source
    → rest ≡ slice_range source taken (place_of change).span.0 ++ ((place_of change).text ++ others)
    → IsEditedUpTo source (done ++ change ∷ []) (place_of change).span.1 bytes others
edited_on source done change taken bytes rest others h after order stop is =
    let new : Replacement = place_of change in
    let kept : List ℕ = slice_range source taken new.span.0 in
    let more : places_of (done ++ change ∷ []) ≡ places_of done ++ new ∷ [] =
    map-append place_of done (change ∷ []) in
    record {
      within = stop;
      apart = subst (AreApart new.span.1) (sym more)
          (apart_more taken (places_of done) new h.apart after order);
      before = h.before ++ (kept ++ new.text);
      up_to = subst (λ (ps : List Replacement). AreReplacedUpTo new.span.1 source ps
          (h.before ++ (kept ++ new.text))) (sym more)
          (replaced_on taken source (places_of done) h.before new h.up_to);
      whole = h.whole ∙ ap (λ (l : List ℕ). h.before ++ l) (is ∙ sym (append_assoc kept new.text others))
          ∙ sym (append_assoc h.before (kept ++ new.text) others);
    }

-- ---- all of them

pub edited_apart : (source : List ℕ) (changes : List Change) (taken : ℕ) (bytes rest : List ℕ)
    → IsEditedUpTo source changes taken bytes rest → AreApart (length source) (places_of changes)
edited_apart source changes taken bytes rest h =
    apart_within taken (length source) (places_of changes) h.apart h.within

pub edited_whole : (source : List ℕ) (changes : List Change) (taken : ℕ) (bytes rest : List ℕ)
    → IsEditedUpTo source changes taken bytes rest → rest ≡ drop taken source
    → bytes ≡ with_replaced source (places_of changes)
edited_whole source changes taken bytes rest h is =
    h.whole ∙ ap (λ (l : List ℕ). h.before ++ l) is
    ∙ all_replaced taken source (places_of changes) h.before h.up_to

-- ---- as they are read

-- bytes that begin with two parts
pub behind_both : (bytes kept others text : List ℕ) (r : Option (Bor (List ℕ)))
    → bytes ≡ kept ++ others
    → MatchOption r ((rest : List ℕ) → others ≢ text ++ rest) (λ x. others ≡ text ++ x.now)
    → IfSome r (λ rest. bytes ≡ kept ++ (text ++ rest.now))
behind_both bytes kept others text None first second = tt
behind_both bytes kept others text (Some rest) first second =
    first ∙ ap (λ (l : List ℕ). kept ++ l) second

-- the change at an index
pub edited_at : (source : List ℕ) (changes : List Change) (i : ℕ) (d : Change) (taken : ℕ)
    (bytes rest others : List ℕ) (span : ℕ × ℕ) (text : List ℕ) → i < length changes
    → IsEditedUpTo source (take i changes) taken bytes rest
    → span ≡ (place_of (get_or changes i d)).span → text ≡ (place_of (get_or changes i d)).text
    → taken ≤ span.0 → span.0 ≤ span.1 → span.1 ≤ length source
    → rest ≡ slice_range source taken span.0 ++ (text ++ others)
    → IsEditedUpTo source (take (i + 1) changes) span.1 bytes others
edited_at source changes i d taken bytes rest others span text less h at said after order stop is =
    let x : Change = get_or changes i d in
    subst (λ (p : ℕ × ℕ). IsEditedUpTo source (take (i + 1) changes) p.1 bytes others) (sym at)
    (subst (λ (cs : List Change). IsEditedUpTo source cs (place_of x).span.1 bytes others)
    (sym (one_more changes i d x less refl))
    (edited_on source (take i changes) x taken bytes rest others h
    (subst (λ (p : ℕ × ℕ). taken ≤ p.0) at after) (subst (λ (p : ℕ × ℕ). p.0 ≤ p.1) at order)
    (subst (λ (p : ℕ × ℕ). p.1 ≤ length source) at stop)
    (subst (λ (p : ℕ × ℕ). rest ≡ slice_range source taken p.0 ++ ((place_of x).text ++ others)) at
    (subst (λ (t : List ℕ). rest ≡ slice_range source taken span.0 ++ (t ++ others)) said is))))

-- all of them, up to the end
pub edited_end : (source : List ℕ) (changes : List Change) (i taken : ℕ) (bytes rest : List ℕ)
    → length changes ≤ i → IsEditedUpTo source (take i changes) taken bytes rest
    → rest ≡ slice_range source taken (length source)
    → bytes ≡ with_replaced source (places_of changes)
edited_end source changes i taken bytes rest past h is =
    edited_whole source changes taken bytes rest
    (subst (λ (cs : List Change). IsEditedUpTo source cs taken bytes rest)
    (take_all i changes past) h)
    (is ∙ between_to_end source taken (length source) (omega arith))
