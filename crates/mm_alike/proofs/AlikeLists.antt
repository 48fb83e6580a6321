-- Two lists that don't map to one, and what holds of each element of a mapped list. On
-- this file rest the loops of `names` and `pairs`.
use Rattle.std.proofs.Common.{◌≡◌, ℕ, ◌+◌, ◌<◌, ◌≤◌, List, [], ◌∷◌, ◌++◌, map, take, length}
use Rattle.std.proofs.Common.{get_or, Contains, inl, inr, sym, ap, subst}
use Rattle.std.proofs.Common.{◌∙◌}
use Rattle.std.proofs.lemmas.List.{map-append, take_more, take_all}
use Rattle.std.proofs.lemmas.Option.{slice_get-get_or}
use Rattle.mm_base.proofs.Lists.{one_there, contains_from_at}
use Rattle.mm_frame.proofs.Names.NameNumbers.{get_alike, get_mapped}
use Rattle.mm_rules.proofs.Numbers.{holds_cases}

-- two lists whose elements at an index map to two don't map to one
pub unalike_at : {A B C : Type 0} (f : A → C) (g : B → C) (xs : List A) (ys : List B) (i : ℕ)
    (d : A) (e : B) → i < length xs → i < length ys → ¬ (f (get_or xs i d) ≡ g (get_or ys i e))
    → ¬ (map f xs ≡ map g ys)
unalike_at f g xs ys i d e less within other same =
    let (y, at, is) = get_alike f g xs ys i (get_or xs i d) same (slice_get-get_or xs i d less) in
    other (sym is ∙ ap g (one_there ys i y (get_or ys i e) at (slice_get-get_or ys i e within)))

module _ {A C : Type 0} (f : A → C) (P : C → Type 0) (xs : List A) where
  -- what holds of each so far, and of the next, holds of one more
  pub each_next : (i : ℕ) (d : A) → i < length xs
      → ((y : C) → Contains (map f (take i xs)) y → P y) → P (f (get_or xs i d))
      → (y : C) → Contains (map f (take (i + 1) xs)) y → P y
  each_next i d less each next y among =
      let longer : map f (take (i + 1) xs) ≡ map f (take i xs) ++ f (get_or xs i d) ∷ [] =
      ap (map f) (take_more xs i d less) ∙ map-append f (take i xs) (get_or xs i d ∷ []) in
      let there : Contains (map f (take i xs) ++ f (get_or xs i d) ∷ []) y =
      subst (λ (cs : List C). Contains cs y) longer among in
      elim (holds_cases (map f (take i xs)) (f (get_or xs i d)) y there) [
        | inl before ↦ each y before
        | inr last ↦ subst P (sym last) next
      ]

  -- all of them were passed
  pub each_whole : (i : ℕ) → length xs ≤ i → ((y : C) → Contains (map f (take i xs)) y → P y)
      → (y : C) → Contains (map f xs) y → P y
  each_whole i past each y among =
      each y (subst (λ (zs : List A). Contains (map f zs) y) (sym (take_all i xs past)) among)

-- an element of a mapped list
pub mapped_there : {A C : Type 0} (f : A → C) (xs : List A) (i : ℕ) (d : A) → i < length xs
    → Contains (map f xs) (f (get_or xs i d))
mapped_there f xs i d less =
    contains_from_at (map f xs) (f (get_or xs i d))
    (i, get_mapped f xs i (get_or xs i d) (slice_get-get_or xs i d less))
