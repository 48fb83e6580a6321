-- What a set answers, said of its list.
use Rattle.std.proofs.Common.{◌≡◌, ℕ, List, [], ◌∷◌, ◌++◌, Bool, true, false}
use Rattle.std.proofs.Common.{if◌then◌else◌, slice_get, Some, refl, sym, ap, subst, ◌∙◌, eqb}
use Rattle.std.proofs.Common.{eq-eqb, get_or, Contains, not}
use Rattle.std.proofs.Common.{position}
use Rattle.std.specs.List.{list_any}
use Rattle.std.proofs.lemmas.Bool.{false≢true, eqb-true}
use Rattle.std.proofs.lemmas.Option.{slice_get-get_or}
use Rattle.std.proofs.lemmas.List.Folds.{list_any_at}
use Rattle.std.proofs.lemmas.List.Quantifiers.{position-Some}
use Rattle.std.proofs.lemmas.Map.Views.{Contains-from_any}
use Rattle.mm_proof.specs.Mirror.CodeSharing.{AddsNew}

-- ==== what a set answers, said of its list

-- the test of equality tells apart
pub record Tells {X : Type 0} (eq : X → X → Bool) : Type 0 where
  pub told : (a b : X) → eq a b ≡ true → a ≡ b
  pub same : (a : X) → eq a a ≡ true

module _ {X : Type 0} (eq : X → X → Bool) (tells : Tells eq) (list : List X) (t : X) where
  pub any_contains :
      (list_any (eq t) list ≡ true → Contains list t) × (Contains list t → list_any (eq t) list ≡ true)
  any_contains = (
    λ e. Contains-from_any tells.told t list e,
    λ c. list_any_at (eq t) list c.0 t c.1 (ap (eq t) c.2 ∙ tells.same t),
  )

  -- the index that is found is that of the subtree
  pub index_there : (i : ℕ) → position (eq t) list ≡ Some i → slice_get list i ≡ Some t
  index_there i e =
      let h = position-Some (eq t) list i t e in
      slice_get-get_or list i t h.0 ∙ ap Some (sym (tells.told t (get_or list i t) h.1))

-- an insertion adds, and answers whether it does
pub inserted_new : (eq : ℕ → ℕ → Bool) → Tells eq → (old new : List ℕ) (n : ℕ) (is_new : Bool) → is_new ≡ not (list_any (eq n) old) → new ≡ (if list_any (eq n) old then old else old ++ n ∷ [])
    → AddsNew old n is_new new
inserted_new eq tells old new n is_new r e = go (list_any (eq n) old) refl r e
  where
    go : (b : Bool) → list_any (eq n) old ≡ b → is_new ≡ not b → new ≡ (if b then old else old ++ n ∷ []) → AddsNew old n is_new new
    go true is r e = subst (λ x. AddsNew old n x new) (sym r) ((any_contains eq tells old n).0 is, e)
    go false is r e = subst (λ x. AddsNew old n x new) (sym r) (λ c. false≢true (sym is ∙ (any_contains eq tells old n).1 c), e)

-- numbers are told apart
pub numbers_told : Tells eqb
numbers_told = record { told = λ a b e. eqb-true a b e; same = λ a. eq-eqb a a refl }

pub ruleset insertions = (inserted_new, numbers_told)
