-- Variants, place by place and window by window. On this file rests the contract of `has_variant`.
use Rattle.std.proofs.Common.{◌≡◌, ◌↔◌, ℕ, suc, ◌+◌, ◌-◌, ◌<◌, ◌≤◌, List, [], ◌∷◌, ◌++◌, length}
use Rattle.std.proofs.Common.{drop, take, get_or, false, Option, ap, sym, subst, refl, ◌∙◌, arith}
use Rattle.std.proofs.Common.{length-append, append_assoc, ◌⊎◌, inl, inr}
use Rattle.std.specs.List.{AllZip}
use denote.Ref.{Bor}
use Rattle.std.specs.List.{drop-map, take-map}
use Rattle.std.proofs.Math.Seq.{drop-append_seam, take-append_seam}
use Rattle.std.proofs.lemmas.List.{drop_more, drop_all, length-map, map-append, take-append-drop}
use Rattle.mm_code.specs.Layout.{texts}
use Rattle.mm_find.specs.Variant.{AreVariant, HasVariant, MayBecome}

abbrev Symbols : Type 0
Symbols = List (List ℕ)

-- ---- place by place

module _ (R : List ℕ → List ℕ → Type 0) (tokens symbols : List (Bor (List ℕ))) (i : ℕ)
    (P : Type 0) where
  abbrev here : Type 0
  here = P ↔ AllZip R (texts (drop i tokens)) (texts (drop i symbols))

  module _ (d e : Bor (List ℕ)) (less : i < length tokens) (less_too : i < length symbols) where
    parted : here → P ↔ (R (get_or tokens i d).now (get_or symbols i e).now
        × AllZip R (texts (drop (i + 1) tokens)) (texts (drop (i + 1) symbols)))
    parted all =
        subst (λ (ts : List (Bor (List ℕ))). P ↔ AllZip R (texts ts)
        (texts (get_or symbols i e ∷ drop (i + 1) symbols))) (drop_more tokens i d less)
        (subst (λ (ss : List (Bor (List ℕ))). P ↔ AllZip R (texts (drop i tokens)) (texts ss))
        (drop_more symbols i e less_too) all)

    pub place_met : R (get_or tokens i d).now (get_or symbols i e).now → here
        → P ↔ AllZip R (texts (drop (i + 1) tokens)) (texts (drop (i + 1) symbols))
    place_met so all = let split = parted all in
        ((λ p. (split.0 p).1), (λ later. split.1 (so, later)))

    pub place_unmet : ¬ (R (get_or tokens i d).now (get_or symbols i e).now) → here → ¬ P
    place_unmet lacks all p = lacks ((parted all).0 p).0

  pub places_met : length tokens ≤ i → length symbols ≤ i → here → P
  places_met end end_too all =
      let none : P ↔ AllZip R [] [] =
      subst (λ (ts : List (Bor (List ℕ))). P ↔ AllZip R (texts ts) [])
      (drop_all i tokens end)
      (subst (λ (ss : List (Bor (List ℕ))). P ↔ AllZip R (texts (drop i tokens)) (texts ss))
      (drop_all i symbols end_too) all) in
      none.1 tt

-- what the first choice decides is decided where the second is none
pub first_choice : (A B P : Type 0) → (P ↔ A) → ¬ B → (P ↔ (A ⊎ B))
first_choice A B P told none = ((λ p. inl (told.0 p)), go)
  where
    go : A ⊎ B → P
    go (inl a) = told.1 a
    go (inr b) = absurd (none b)

-- as many of both
pub zip_as_many : (R : List ℕ → List ℕ → Type 0) (xs ys : Symbols) → AllZip R xs ys
    → length xs ≡ length ys
zip_as_many R [] [] all = refl
zip_as_many R [] (y ∷ ys) all = absurd all
zip_as_many R (x ∷ xs) [] all = absurd all
zip_as_many R (x ∷ xs) (y ∷ ys) (so, all) = ap (λ (n : ℕ). suc n) (zip_as_many R xs ys all)

pub variant_as_many : (type_of : List ℕ → Option (List ℕ)) (tokens symbols : List (Bor (List ℕ)))
    → AreVariant type_of (texts tokens) (texts symbols) → length tokens ≡ length symbols
variant_as_many type_of tokens symbols is =
    sym (length-map tokens (λ (t : Bor (List ℕ)). t.now))
    ∙ zip_as_many (MayBecome type_of) (texts tokens) (texts symbols) is.each
    ∙ length-map symbols (λ (t : Bor (List ℕ)). t.now)

-- ---- window by window

-- so many of the symbols from an index on
abbrev pub window : (symbols : List (Bor (List ℕ))) → (at count : ℕ) → List (Bor (List ℕ))
window symbols at count = take count (drop at symbols)

module _ (type_of : List ℕ → Option (List ℕ)) (tokens symbols : List (Bor (List ℕ))) where
  -- a window is a variant
  pub window_met : (at count : ℕ) → AreVariant type_of (texts tokens) (texts (window symbols at count))
      → HasVariant type_of false (texts tokens) (texts symbols)
  window_met at count is =
      let left : List (Bor (List ℕ)) = drop count (drop at symbols) in
      let cut : symbols ≡ take at symbols ++ (window symbols at count ++ left) =
      sym (take-append-drop at symbols)
      ∙ ap (λ (r : List (Bor (List ℕ))). take at symbols ++ r)
      (sym (take-append-drop count (drop at symbols))) in (
        texts (take at symbols),
        texts (window symbols at count),
        texts left,
        ap texts cut
            ∙ map-append (λ (t : Bor (List ℕ)). t.now) (take at symbols)
            (window symbols at count ++ left)
            ∙ ap (λ (r : Symbols). texts (take at symbols) ++ r)
            (map-append (λ (t : Bor (List ℕ)). t.now) (window symbols at count) left)
            ∙ sym (append_assoc (texts (take at symbols)) (texts (window symbols at count))
            (texts left)),
        is,
      )

  -- so is the one that stands behind the symbols before it
  own_window : (before own after : Symbols) → texts symbols ≡ before ++ (own ++ after)
      → texts (window symbols (length before) (length own)) ≡ own
  own_window before own after cut =
      sym (take-map (λ (t : Bor (List ℕ)). t.now) (length own) (drop (length before) symbols))
      ∙ ap (take (length own)) (sym (drop-map (λ (t : Bor (List ℕ)). t.now) (length before) symbols)
      ∙ ap (drop (length before)) cut ∙ drop-append_seam before (own ++ after))
      ∙ take-append_seam own after

  counted : (before own after : Symbols) → texts symbols ≡ before ++ (own ++ after)
      → length symbols ≡ length before + (length own + length after)
  counted before own after cut =
      sym (length-map symbols (λ (t : Bor (List ℕ)). t.now))
      ∙ ap (λ (s : Symbols). length s) cut
      ∙ length-append before (own ++ after)
      ∙ ap (λ (n : ℕ). length before + n) (length-append own after)

  -- none of the windows is a variant
  pub windows_unmet : length tokens ≤ length symbols
      → ((at : ℕ) → at < length symbols - length tokens + 1
      → ¬ (AreVariant type_of (texts tokens) (texts (window symbols at (length tokens)))))
      → ¬ (HasVariant type_of false (texts tokens) (texts symbols))
  windows_unmet few none (before, own, after, cut, is) =
      let many : length own ≡ length tokens =
      sym (zip_as_many (MayBecome type_of) (texts tokens) own is.each)
      ∙ length-map tokens (λ (t : Bor (List ℕ)). t.now) in
      let same : texts (window symbols (length before) (length tokens)) ≡ own =
      ap (λ (n : ℕ). texts (window symbols (length before) n)) (sym many)
      ∙ own_window before own after (cut ∙ append_assoc before own after) in
      none (length before) (omega (arith, counted before own after (cut ∙ append_assoc before own after), many))
      (subst (λ (ss : Symbols). AreVariant type_of (texts tokens) ss) (sym same) is)

  -- there are too few symbols
  pub too_few : length symbols < length tokens
      → ¬ (HasVariant type_of false (texts tokens) (texts symbols))
  too_few less (before, own, after, cut, is) =
      let many : length own ≡ length tokens =
      sym (zip_as_many (MayBecome type_of) (texts tokens) own is.each)
      ∙ length-map tokens (λ (t : Bor (List ℕ)). t.now) in
      omega (arith, counted before own after (cut ∙ append_assoc before own after), many, less)
