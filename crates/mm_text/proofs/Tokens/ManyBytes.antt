-- Many bytes at once: the mask of one load, and bytes of which all may stand in a file.
use Rattle.std.proofs.Common.{◌≡◌, ℕ, ◌+◌, ◌-◌, ◌%◌, ◌^◌, ◌<◌, ◌≤◌, Bool, true, false, not, List}
use Rattle.std.proofs.Common.{[], ◌∷◌, map, length, get_or, Fits, w8, refl, sym, ap, ap₂}
use Rattle.std.proofs.Common.{◌∙◌, subst, arith, inl, inr, ◌⊎◌, ⊎_elim, drop, ◌&&◌, ◌||◌, suc}
use Rattle.std.proofs.Common.{eq-eqb, ne_eqb, le-leb, map-id, get_or-drop, get_or-take, length-drop}
use Rattle.std.proofs.Common.{length-take-le, slice_range, nat_le}
use Rattle.std.proofs.lemmas.Bool.{agree_below, agree_below_at, not-true, not-false, cases_eq}
use Rattle.std.proofs.lemmas.Bool.{cond-true, cond-false, both_ways, true_from_ne_false}
use Rattle.std.proofs.lemmas.Simd.{map-map, mask_l-mod, length-chunk, get_or-chunk}
use Rattle.std.proofs.lemmas.Simd.{leading_from_mask_l, trailing_mask_l}
use Rattle.std.proofs.lemmas.List.{length-map}
use Rattle.std.proofs.lemmas.List.Sums.{prefix_len-le-length, prefix_len_passes, prefix_len_stops}
use Rattle.std.specs.List.{prefix_len, list_all}
use Rattle.std.proofs.lemmas.List.Folds.{list_all_at}
use Rattle.std.proofs.str.Laws.{order}
use Rattle.mm_text.specs.Mirror.Sought.{IsRunIn, first_set}
use Rattle.mm_base.specs.Token.{is_space}
use Rattle.mm_text.specs.Mirror.Position.{is_legal}
use lib.Lanes.{chunk, zip2, mask_l, top}

-- ==== from the mask of one load to the bytes that are passed over

zip2-map : (h : ℕ → ℕ → ℕ) (f g : ℕ → ℕ) (xs : List ℕ) → zip2 h (map f xs) (map g xs) ≡ map (λ x. h (f x) (g x)) xs
zip2-map h f g [] = refl
zip2-map h f g (x ∷ xs) = ap (λ r. h (f x) (g x) ∷ r) (zip2-map h f g xs)

-- an operation on two vectors that were computed lane by lane from v
pub joined : (h : ℕ → ℕ → ℕ) (f g : ℕ → ℕ) (v : List ℕ) {a b : List ℕ} → a ≡ map f v → b ≡ map g v → zip2 h a b ≡ map (λ x. h (f x) (g x)) v
joined h f g v p q = ap₂ (zip2 h) p q ∙ zip2-map h f g v

pub itself : (v : List ℕ) → v ≡ map (λ x. x) v
itself v = sym (map-id v)

run_is : (p : ℕ → Bool) (v : List ℕ) (n : ℕ) → length v ≡ n → n ≤ 64 → first_set (mask_l (map p v)) n ≡ prefix_len (λ x. not (p x)) v
run_is p v n long few =
    elim (cases_eq (mask_l (map p v)) 0) [
      | inl none ↦ cond-true _ _ _ (eq-eqb _ _ none) ∙ sym (leading_from_mask_l p v none ∙ long)
      | inr some ↦ cond-false _ _ _ (ne_eqb _ _ some) ∙ trailing_mask_l p 64 v (omega arith) (omega arith)
    ]

module _ (q : ℕ → Bool) (d : List ℕ) (i n r : ℕ) (z : List ℕ) (room : i + n ≤ length d) (few : n ≤ 64)
    (fits : (k : ℕ) → Fits w8 (get_or d k 0)) (found : r ≡ first_set (mask_l (map (top 7) z) % 2 ^ 64) n)
    (f : ℕ → ℕ) (lanes : z ≡ map f (chunk i n d)) where
  abbrev stops : ℕ → Bool
  stops x = top 7 (f x)

  long : length (chunk i n d) ≡ n
  long = length-chunk i n d room

  counted : r ≡ prefix_len (λ x. not (stops x)) (chunk i n d)
  counted =
      let v = chunk i n d in
      let mask = ap (λ l. mask_l l % 2 ^ 64) (ap (map (top 7)) lanes ∙ map-map (top 7) f v) ∙ mask_l-mod (map stops v) 64 (omega (arith, length-map v stops, long)) in
      found ∙ ap (λ m. first_set m n) mask ∙ run_is stops v n long few

  goes_on : (k : ℕ) → i ≤ k → k < i + r → stops (get_or d k 0) ≡ false
  goes_on k from to =
      let back : i + (k - i) ≡ k = omega arith in
      let bound = prefix_len-le-length (λ x. not (stops x)) (chunk i n d) in
      let at = get_or-chunk i n d (k - i) 0 (omega (arith, counted, long)) ∙ ap (λ j. get_or d j 0) back in
      subst (λ x. stops x ≡ false) at (not-true _ (prefix_len_passes (λ x. not (stops x)) (chunk i n d) (k - i) 0 (omega (arith, counted))))

  -- a lane stops just where q fails
  pub run_in : agree_below stops (λ x. not (q x)) 256 ≡ true → IsRunIn q d i n r
  run_in all = record {
    few = omega (arith, counted, long, prefix_len-le-length (λ x. not (stops x)) (chunk i n d));
    passes = λ k from to. not-false _ (sym (agree_below_at stops (λ x. not (q x)) 256 (get_or d k 0) all (fits k).fits) ∙ goes_on k from to);
    stops = λ short.
        let at = ap (λ j. get_or (chunk i n d) j 0) (sym counted) ∙ get_or-chunk i n d r 0 short in
        let set = subst (λ x. stops x ≡ true) at (not-false _ (prefix_len_stops (λ x. not (stops x)) (chunk i n d) 0 (omega (arith, counted, long)))) in
        not-true _ (sym (agree_below_at stops (λ x. not (q x)) 256 (get_or d (i + r) 0) all (fits (i + r)).fits) ∙ set);
  }

-- ==== bytes that may stand in a file, many at once

-- what holds of all bytes of a range holds of each
pub legal_in : (bytes : List ℕ) (start stop k : ℕ) → stop ≤ length bytes → start ≤ k → k < stop → list_all is_legal (slice_range bytes start stop) ≡ true → is_legal (get_or bytes k 0) ≡ true
legal_in bytes start stop k within low high all =
    let range = slice_range bytes start stop in
    let long : length range ≡ stop - start = length-take-le (stop - start) (drop start bytes) (omega (arith, length-drop start bytes)) in
    let position : start + (k - start) ≡ k = omega arith in
    let same : get_or range (k - start) 0 ≡ get_or bytes k 0 =
    get_or-take (stop - start) (drop start bytes) (k - start) 0 (omega arith) ∙ get_or-drop start bytes (k - start) 0 ∙ ap (λ n. get_or bytes n 0) position in
    true_from_ne_false _ (λ other. both_ways _ (list_all_at is_legal range (k - start) 0 (omega (arith, long)) (ap is_legal same ∙ other)) all)

-- what holds at each position holds of all
pub all_from_positions : (p : ℕ → Bool) (xs : List ℕ) → ((k : ℕ) → k < length xs → p (get_or xs k 0) ≡ true) → list_all p xs ≡ true
all_from_positions p [] h = refl
all_from_positions p (x ∷ xs) h = ap (λ b. b && list_all p xs) (h 0 (omega arith)) ∙ all_from_positions p xs (λ k lt. h (suc k) (omega arith))

-- a printable byte or a space
pub shown_legal : (b : ℕ) → 32 ≤ b → b ≤ 126 → is_legal b ≡ true
shown_legal b low high = ⊎_elim
    (λ (more : 32 < b). ap (λ t. (t && nat_le b 126) || is_space b) (le-leb 33 b more) ∙ ap (λ t. t || is_space b) (le-leb b 126 high))
    (λ (least : b ≤ 32). let space : b ≡ 32 = omega arith in ap is_legal space)
    (order 32 b)

-- bytes within the bounds of such ones, or line feeds
pub plain_legal : (bytes : List ℕ) (least greatest : ℕ) → 32 ≤ least → greatest ≤ 126
    → ((k : ℕ) → k < length bytes → (get_or bytes k 0 ≡ 10) ⊎ (least ≤ get_or bytes k 0))
    → ((k : ℕ) → k < length bytes → get_or bytes k 0 ≤ greatest)
    → list_all is_legal bytes ≡ true
plain_legal bytes least greatest from to low high = all_from_positions is_legal bytes (λ k lt.
    ⊎_elim (λ (feed : get_or bytes k 0 ≡ 10). ap is_legal feed) (λ (more : least ≤ get_or bytes k 0). shown_legal (get_or bytes k 0) (omega arith) (omega (arith, high k lt))) (low k lt))
