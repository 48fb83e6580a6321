-- The label of which the most is left. The contracts of `rarest.rt` rest on it.
use Rattle.std.proofs.Common.{◌≡◌, ℕ, ◌-◌, ◌<◌, ◌≤◌, List, [], ◌∷◌, ◌++◌, length}
use Rattle.std.proofs.Common.{slice_get, get_or, true, Option, Some, None, option_map}
use Rattle.std.proofs.Common.{refl, subst, arith}
use Rattle.std.proofs.Common.{inl, inr}
use denote.Ref.{Bor}
use Rattle.std.specs.Str.{bytes_eq}
use Rattle.std.specs.Cmp.Lexicographic.{nat_list_eq_equiv}
use Rattle.std.proofs.lemmas.Option.{none-some, slice_get_within}
use Rattle.mm_base.proofs.Lists.{any_found, get_kept, get_pushed, pushed_cases}
use Rattle.mm_code.specs.Layout.{texts}
use Rattle.mm_groups.specs.Shared.{IsRarest, IsRarestIn, is_in}

-- a label of the list is in it
pub listed_at : (labels : List (Bor (List ℕ))) (i : ℕ) (d : Bor (List ℕ)) → i < length labels
    → is_in (texts labels) (get_or labels i d).now ≡ true
listed_at labels i d less =
    let own : List ℕ = (get_or labels i d).now in
    any_found (λ (l : Bor (List ℕ)). l.now) (bytes_eq own) labels i d less
    (nat_list_eq_equiv.refl own)

-- the best of these labels, and what is left for it
abbrev pub IsBest : (limit : ℕ) → (count : List ℕ → ℕ) → List (List ℕ) → (best : Option (Bor (List ℕ)))
    → (most : ℕ) → Type 0
IsBest limit count labels None most = (most ≡ 0) × IsRarestIn limit count labels None
IsBest limit count labels (Some best) most =
    (most ≡ limit - count best.now) × IsRarest limit count labels best.now

pub best_of_none : (limit : ℕ) (count : List ℕ → ℕ) → IsBest limit count [] None 0
best_of_none limit count = (refl, λ i other there. absurd (none-some other there))

module _ (limit : ℕ) (count : List ℕ → ℕ) (front : List (List ℕ)) (own : List ℕ) (left : ℕ)
    (is : left ≡ limit - count own) where
  -- one more of which less is left, or as much
  pub best_same : (best : Option (Bor (List ℕ))) (most : ℕ) → left ≤ most
      → IsBest limit count front best most → IsBest limit count (front ++ own ∷ []) best most
  best_same None most less (zero, none) = (
    zero,
    λ i other there. elim (pushed_cases front own i other there) [
      | inl before ↦ none i other before
      | inr (at, same) ↦
          subst (λ (l : List ℕ). limit ≤ count l) same (omega (arith, is, less, zero))
    ],
  )
  best_same (Some best) most less (many, rarest) =
      let within = slice_get_within front rarest.index best.now rarest.there in (
        many,
        record {
          index = rarest.index;
          there = get_kept front (own ∷ []) rarest.index best.now rarest.there;
          few = rarest.few;
          first = λ i other there earlier. elim (pushed_cases front own i other there) [
            | inl before ↦ rarest.first i other before earlier
            | inr (at, same) ↦ absurd (omega (arith, at, earlier, within))
          ];
          least = λ i other there. elim (pushed_cases front own i other there) [
            | inl before ↦ rarest.least i other before
            | inr (at, same) ↦
                subst (λ (l : List ℕ). count best.now ≤ count l) same
                (omega (arith, is, less, many, rarest.few))
          ];
        },
      )

  -- one more of which more is left
  pub best_more : (best : Option (Bor (List ℕ))) (most : ℕ) → most < left
      → IsBest limit count front best most → IsRarest limit count (front ++ own ∷ []) own
  best_more best most more so_far = record {
    index = length front;
    there = get_pushed front own;
    few = omega (arith, is, more);
    first = λ i other there earlier. elim (pushed_cases front own i other there) [
      | inl before ↦ fewer best so_far i other before
      | inr (at, same) ↦ absurd (omega (arith, at, earlier))
    ];
    least = λ i other there. elim (pushed_cases front own i other there) [
      | inl before ↦
          let less : count own < count other = fewer best so_far i other before in
          omega (arith, less)
      | inr (at, same) ↦ subst (λ (l : List ℕ). count own ≤ count l) same (omega arith)
    ];
  }
    where
      fewer : (b : Option (Bor (List ℕ))) → IsBest limit count front b most → (i : ℕ)
          (other : List ℕ) → slice_get front i ≡ Some other → count own < count other
      fewer None (zero, none) i other there =
          let many : limit ≤ count other = none i other there in
          omega (arith, many, is, more)
      fewer (Some b) (many, rarest) i other there =
          let least : count b.now ≤ count other = rarest.least i other there in
          omega (arith, least, is, more, many, rarest.few)

-- of all labels
pub best_in_end : (limit : ℕ) (count : List ℕ → ℕ) (labels : List (List ℕ))
    (best : Option (Bor (List ℕ))) (most : ℕ) → IsBest limit count labels best most
    → IsRarestIn limit count labels (option_map (λ l. l.now) best)
best_in_end limit count labels None most is = is.1
best_in_end limit count labels (Some best) most is = is.1

-- no labels
pub rarest_of_none : (limit : ℕ) (count : List ℕ → ℕ) (labels : List (Bor (List ℕ)))
    → length labels ≡ 0 → IsRarestIn limit count (texts labels) None
rarest_of_none limit count [] none = λ i other there. absurd (none-some other there)
rarest_of_none limit count (l ∷ ls) none = absurd cc
