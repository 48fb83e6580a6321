-- A number among labels, as a test finds it.
use Rattle.std.proofs.Common.{◌≡◌, ◌↔◌, ℕ, zero, suc, List, [], ◌∷◌}
use Rattle.std.proofs.Common.{slice_get, Contains, Bool, true, IsTrue, nat_eq, eq-eqb}
use Rattle.std.proofs.Common.{◌||◌, Some, inl, inr, sym, ap, ◌∙◌}
use Rattle.std.specs.List.{list_any}
use Rattle.std.proofs.lemmas.Bool.{or_cases, eqb-true, or_right}
use Rattle.mm_frame.specs.declared.number.LabelId.{LabelId}
use Rattle.mm_base.proofs.Lists.{at_from_contains, contains_from_at}
use Rattle.mm_step.specs.Plain.{ids_in}

-- a number among labels, as a test finds it
pub any_among : (xs : List LabelId) (x : LabelId) (b : Bool) → b ≡ list_any (λ y. nat_eq y.0 x.0) xs → IsTrue b ↔ Contains (ids_in xs) x.0
any_among xs x b e = (
  (λ t. contains_from_at (ids_in xs) x.0 (there xs (sym e ∙ t))),
  λ h. let at = at_from_contains (ids_in xs) x.0 h in e ∙ found xs at.0 at.1,
)
  where
    there : (ls : List LabelId) → list_any (λ y. nat_eq y.0 x.0) ls ≡ true → (i : ℕ) × (slice_get (ids_in ls) i ≡ Some x.0)
    there [] t = absurd cc
    there (l ∷ ls) t = elim (or_cases (nat_eq l.0 x.0) (list_any (λ y. nat_eq y.0 x.0) ls) t) [
      | inl here ↦ (0, ap (λ (n : ℕ). Some n) (eqb-true l.0 x.0 here))
      | inr later ↦ let rest = there ls later in (suc rest.0, rest.1)
    ]

    found : (ls : List LabelId) (i : ℕ) → slice_get (ids_in ls) i ≡ Some x.0 → list_any (λ y. nat_eq y.0 x.0) ls ≡ true
    found [] i f = absurd cc
    found (l ∷ ls) zero f = let same : l.0 ≡ x.0 = cc in ap (λ (c : Bool). c || list_any (λ y. nat_eq y.0 x.0) ls) (eq-eqb l.0 x.0 same)
    found (l ∷ ls) (suc i) f = or_right (nat_eq l.0 x.0) (list_any (λ y. nat_eq y.0 x.0) ls) (found ls i f)
