-- The steps that gave a step its hypotheses, as the loop over origins picks them; and what is told of
-- each step, as moves are added.
use Rattle.std.proofs.Common.{◌≡◌, ℕ, suc, ◌+◌, ◌-◌, ◌<◌, List, [], ◌∷◌, ◌++◌, length, take, drop}
use Rattle.std.proofs.Common.{get_or, slice_get, slice_index_or, Some, Bool, true, Contains}
use Rattle.std.proofs.Common.{◌↔◌, inl, inr, refl, sym, ap, subst, arith, ⊎_elim}
use Rattle.std.proofs.lemmas.Bool.{false≢true}
use Rattle.std.proofs.lemmas.Option.{none-some}
use Rattle.std.proofs.lemmas.List.{take_more, map-append, length-map, length-take-le, length-append}
use Rattle.std.proofs.lemmas.List.{take-append-le, take_at}
use Rattle.mm_base.proofs.Lists.{at_from_contains, contains_from_at, split_at}
use Rattle.mm_frame.specs.Frame.{AreThose}
use Rattle.mm_step.specs.declared.call.Call.{Call}
use Rattle.mm_step.specs.Moves.{Move, mark, is_step, steps_in}
use Rattle.mm_listing.specs.Uses.{AreOfSteps}
use Rattle.mm_listing.specs.Mirror.StepUses.{sources_of, IsAskedOf}
use Rattle.mm_frame.proofs.Frames.FrameLaws.{those_hold, those_more, those_skipped}
use Rattle.mm_proof.proofs.ProofVerdicts.FirstFault.{steps_in-append}
use Rattle.mm_listing.proofs.Machines.ListedLines.{old_or_new, one_step}

-- ==== those of a list of which something holds

-- something else holds of the same
pub those_same : {X : Type 0} (P Q : ℕ → X → Type 0) → ((i : ℕ) (x : X) → P i x ↔ Q i x) → (n : ℕ)
    (xs ys : List X) → AreThose P n xs ys → AreThose Q n xs ys
those_same P Q same n [] ys those = those
those_same P Q same n (x ∷ xs) ys (inl one) =
    inl ((same n x).0 one.0, one.1, one.2, those_same P Q same (n + 1) xs one.1 one.3)
those_same P Q same n (x ∷ xs) ys (inr other) =
    inr ((λ is. other.0 ((same n x).1 is)), those_same P Q same (n + 1) xs ys other.1)

-- each of them is one of the list
pub those_within : {X : Type 0} (P : ℕ → X → Type 0) (n : ℕ) (xs ys : List X) (x : X)
    → AreThose P n xs ys → Contains ys x → Contains xs x
those_within P n xs ys x those is =
    let at = at_from_contains ys x is in
    let h = those_hold P n xs ys at.0 x those at.1 in
    contains_from_at xs x (h.0, h.1)

-- ---- in the loop over the origins

-- as many
pub sources_long : (sources origins : List ℕ) → length (sources_of sources origins) ≡ length origins
sources_long sources origins = length-map origins (λ origin. slice_index_or sources (origin - 1) 0)

-- one origin more
pub sources_more : (sources origins : List ℕ) (at : ℕ) → at < length origins
    → sources_of sources (take (at + 1) origins)
    ≡ sources_of sources (take at origins) ++ get_or sources (get_or origins at 0 - 1) 0 ∷ []
sources_more sources origins at within = rw (take_more origins at 0 within) (simp map-append)

module _ (essential : Bool) (call : Call) (sources origins : List ℕ) (at : ℕ) (used : List ℕ)
    (within : at < length origins)
    (was : AreThose (λ i operand. IsAskedOf essential call i) 0
    (sources_of sources (take at origins)) used) where
  -- one that is asked for
  pub operands_more : IsAskedOf essential call at
      → AreThose (λ i operand. IsAskedOf essential call i) 0 (sources_of sources (take (at + 1)
      origins))
      (used ++ get_or sources (get_or origins at 0 - 1) 0 ∷ [])
  operands_more is =
      let here : at ≡ 0 + length (sources_of sources (take at origins)) =
      omega (arith, sources_long sources (take at origins), length-take-le at origins (omega arith))
      in
      rw (sources_more sources origins at within)
      (those_more (λ i operand. IsAskedOf essential call i) 0 (sources_of sources (take at origins))
      used
      (get_or sources (get_or origins at 0 - 1) 0) was (subst (IsAskedOf essential call) here is))

  -- one that isn't
  pub operands_skipped : ¬ (IsAskedOf essential call at)
      → AreThose (λ i operand. IsAskedOf essential call i) 0 (sources_of sources (take (at + 1)
      origins))
      used
  operands_skipped isnt =
      let here : 0 + length (sources_of sources (take at origins)) ≡ at =
      omega (arith, sources_long sources (take at origins), length-take-le at origins (omega arith))
      in
      rw (sources_more sources origins at within)
      (those_skipped (λ i operand. IsAskedOf essential call i) 0 (sources_of sources (take at origins))
      used (get_or sources (get_or origins at 0 - 1) 0) was
      (λ is. isnt (subst (IsAskedOf essential call) here is)))

-- ==== what is told of each step

-- a step is counted among the moves, and not among those before it
step_before : {X : Type 0} (moves : List (Move X)) (i : ℕ) (move : Move X)
    → slice_get moves i ≡ Some move → is_step move ≡ true
    → steps_in (take i moves) < steps_in moves
step_before moves i move there is =
    let rest = drop (suc i) moves in
    let whole = ap steps_in (split_at moves i move there) in
    let parts = steps_in-append (take i moves) (move ∷ rest) in
    omega (arith, whole, parts, steps_in-append (move ∷ []) rest, one_step move is)

-- nothing is told where there is no move
pub of_none : {X Y : Type 0} (Told : List (Move X) → Move X → Y → Type 0) → AreOfSteps Told [] []
of_none Told = record {
  count = refl;
  each = λ index move told there is at. absurd (none-some move
      there);
}

-- a step more
pub of_step : {X Y : Type 0} (Told : List (Move X) → Move X → Y → Type 0) (moves : List (Move X))
    (move : Move X) (all : List Y) (told : Y) → AreOfSteps Told moves all → is_step move ≡ true
    → Told moves move told → AreOfSteps Told (moves ++ move ∷ []) (all ++ told ∷ [])
of_step Told moves move all told was is new = record {
  count =
      let more = steps_in-append moves (move ∷ []) in
      omega (arith, was.count, length-append all (told ∷ []), more, one_step move is);
  each = λ index m t there is_one at. ⊎_elim
      (λ old.
      let prefix = take-append-le index moves (move ∷ []) (let l = old.0 in omega arith) in
      let less = step_before moves index m old.1 is_one in
      rw prefix (elim (old_or_new all told t (steps_in (take index moves)) (rw prefix at at)) [
        | inl h ↦ was.each index m t old.1 is_one h.1
        | inr h ↦ absurd (omega (arith, h.0, less, was.count))
      ]))
      (λ last.
      let prefix = take_at moves (move ∷ []) index (sym last.0) in
      rw (prefix, ← last.1) (elim (old_or_new all told t (steps_in moves) (rw prefix at at)) [
        | inl h ↦ absurd (omega (arith, h.0, was.count))
        | inr h ↦ rw (← h.1) new
      ]))
      (old_or_new moves move m index there);
}

-- a mark more
pub of_mark : {X Y : Type 0} (Told : List (Move X) → Move X → Y → Type 0) (moves : List (Move X))
    (all : List Y) → AreOfSteps Told moves all → AreOfSteps Told (moves ++ mark ∷ []) all
of_mark Told moves all was = record {
  count = omega (arith, was.count, steps_in-append moves (mark ∷ []));
  each = λ index m t there is_one at. ⊎_elim
      (λ old.
      let prefix = take-append-le index moves (mark ∷ []) (let l = old.0 in omega arith) in
      rw prefix (was.each index m t old.1 is_one (rw prefix at at)))
      (λ new. absurd (false≢true (rw (← new.1) at is_one)))
      (old_or_new moves mark m index there);
}
