-- What is kept of the proof with a number: the numbers rise, so one proof at most has it.
use Rattle.std.proofs.Common.{◌≡◌, ◌↔◌, ◌<◌, ℕ, List, [], length, slice_get, Contains, Some, ap, ◌∙◌, arith}
use Rattle.std.proofs.lemmas.List.{length-map}
use Rattle.std.proofs.lemmas.Option.{slice_get_within, same_Some}
use Rattle.mm_frame.proofs.Names.NameNumbers.{get_mapped}
use Rattle.mm_base.proofs.Lists.{at_from_contains, contains_from_at, get_within}
use Rattle.std.proofs.Common.{sym, subst}
use Rattle.mm_rules.specs.Conclusion.{ProofUses, numbers_of}
use Rattle.mm_rules.specs.Rests.{AreRising}
use Rattle.mm_rules.specs.Mirror.Marks.{UsedIn}
use Rattle.mm_rules.proofs.RisingNumbers.{rising_once}

-- the proof at the index is the one with the number
pub uses_found : (uses : List ProofUses) (id at : ℕ) → AreRising (numbers_of uses)
    → slice_get (numbers_of uses) at ≡ Some id → (ids : List ℕ)
    → ((u : ProofUses) → slice_get uses at ≡ Some u → (n : ℕ) → Contains ids n ↔ Contains u.used n)
    → (n : ℕ) → Contains ids n ↔ UsedIn uses id n
uses_found uses id at rising there ids told n =
    let within = slice_get_within (numbers_of uses) at id there in
    let less : at < length uses = omega (arith, within, length-map uses (λ (u : ProofUses). u.number)) in
    let (u, here) = get_within uses at less in
    let number : u.number ≡ id =
    same_Some u.number id (sym (get_mapped (λ (v : ProofUses). v.number) uses at u here) ∙ there) in (
      (λ among. (u, contains_from_at uses u (at, here), number, (told u here n).0 among)),
      λ (v, kept, is, holds).
          let (i, place) = at_from_contains uses v kept in
          let named : slice_get (numbers_of uses) i ≡ Some id =
          get_mapped (λ (w : ProofUses). w.number) uses i v place ∙ ap (λ (k : ℕ). Some k) is in
          let same : i ≡ at = rising_once (numbers_of uses) i at id rising named there in
          let stands : slice_get uses at ≡ Some v = subst (λ (k : ℕ). slice_get uses k ≡ Some v) same place in
          (told v stands n).1 holds,
    )

-- no proof has the number
pub uses_missed : (uses : List ProofUses) (id : ℕ) (ids : List ℕ) → ids ≡ []
    → ¬ (Contains (numbers_of uses) id) → (n : ℕ) → Contains ids n ↔ UsedIn uses id n
uses_missed uses id ids empty none n = (
  (λ among. absurd (let (i, at) = at_from_contains ids n among in let less = slice_get_within ids i n at in let none : length ids ≡ 0 = ap (λ (xs : List ℕ). length xs) empty in omega arith)),
  λ (u, kept, is, holds).
      let (i, place) = at_from_contains uses u kept in
      absurd (none (contains_from_at (numbers_of uses) id (i, get_mapped (λ (w : ProofUses). w.number) uses i u place ∙ ap (λ (k : ℕ). Some k) is))),
)
