-- What theorems rest on where some of their proofs were replaced: where each assertion that a new
-- proof uses leads to nothing new, no theorem rests on more.
use Rattle.std.proofs.Common.{◌≡◌, ℕ, zero, suc, ◌<◌, ◌==◌, Bool, true, false, cond, ◌⊎◌, inl, inr}
use Rattle.std.proofs.Common.{refl, sym, ap, subst, ◌∙◌, arith, eq-eqb}
use Rattle.std.proofs.lemmas.Bool.{cases_eq, ne_eqb}
use Rattle.mm_rules.specs.Rests.{RestsOn}

-- ---- tests of numbers below a bound

-- what the test tells is so, and it tells all that is so below the bound
record IsTestBelow (P : ℕ → Type 0) (bound : ℕ) (test : ℕ → Bool) : Type 0 where
  pub told : (n : ℕ) → test n ≡ true → P n
  pub tells : (n : ℕ) → n < bound → P n → test n ≡ true

-- it tells one more
one_more_told : (P : ℕ → Type 0) (bound : ℕ) (test : ℕ → Bool) → IsTestBelow P bound test → P bound
    → IsTestBelow P (suc bound) (λ n. cond (n == bound) true (test n))
one_more_told P bound test is here = record {
  told = λ n told. elim (cases_eq n bound) [
    | inl same ↦ subst P (sym same) here
    | inr other ↦
        is.told n (sym (ap (λ (b : Bool). cond b true (test n)) (ne_eqb n bound other)) ∙ told)
  ];
  tells = λ n less so. elim (cases_eq n bound) [
    | inl same ↦ ap (λ (b : Bool). cond b true (test n)) (eq-eqb n bound same)
    | inr other ↦ either (n == bound) (test n) (is.tells n (omega (arith, less, other)) so)
  ];
}
  where
    either : (a b : Bool) → b ≡ true → cond a true b ≡ true
    either true b h = refl
    either false b h = h

-- it may tell no more where nothing more is so
none_more_told : (P : ℕ → Type 0) (bound : ℕ) (test : ℕ → Bool) → IsTestBelow P bound test
    → ¬ (P bound) → IsTestBelow P (suc bound) test
none_more_told P bound test is none = record {
  told = is.told;
  tells = λ n less so. elim (cases_eq n bound) [
    | inl same ↦ absurd (none (subst P same so))
    | inr other ↦ is.tells n (omega (arith, less, other)) so
  ];
}

-- There is a test, in that it isn't so that there is none: what is so need not be decided.
some_test : (P : ℕ → Type 0) (bound : ℕ) → ¬ ((test : ℕ → Bool) → ¬ (IsTestBelow P bound test))
some_test P zero none =
    none (λ n. false)
    (record { told = λ n h. absurd (cc h); tells = λ n less so. absurd (omega (arith, less)) })
some_test P (suc bound) none =
    some_test P bound (λ test is.
    let other : ¬ (P bound) = λ here.
    none (λ n. cond (n == bound) true (test n)) (one_more_told P bound test is here) in
    none test (none_more_told P bound test is other))

-- ---- no theorem rests on more

-- In the new uses, what is loose is reached through a used number only where it was reached in the
-- old ones. So each theorem rests in the new on nothing loose on which it didn't rest in the old. A
-- set that is closed over the old uses needn't be so over the new ones; but that of the numbers
-- through which nothing loose is reached that isn't in it is.
pub rests_on_no_more : (Old New : ℕ → ℕ → Type 0) (Loose : ℕ → Type 0) (bound : ℕ)
    → ((id used : ℕ) → New id used → used < bound)
    → ((id used n : ℕ) → New id used → Loose n → (used ≡ n) ⊎ RestsOn Old used n
    → RestsOn Old id n)
    → (id n : ℕ) → Loose n → RestsOn New id n → RestsOn Old id n
rests_on_no_more Old New Loose bound within founded id n loose rests set closed =
    by (set n) refl
  where
    -- nothing loose is reached through it that isn't in the set
    Leads : ℕ → Type 0
    Leads m = (k : ℕ) → Loose k → (m ≡ k) ⊎ RestsOn Old m k → set k ≡ true

    holds : (test : ℕ → Bool) → IsTestBelow Leads bound test → set n ≡ true
    holds test is =
        let has : test n ≡ true = rests test (record {
          own = λ used uses.
              is.tells used (within id used uses)
              (λ k free through. founded id used k uses free through set closed);
          others = λ m used there uses.
              is.tells used (within m used uses)
              (λ k free through.
              is.told m there k free (inr (founded m used k uses free through)));
        }) in
        is.told n has n loose (inl refl)

    by : (b : Bool) → set n ≡ b → set n ≡ true
    by true is = is
    by false is = absurd (some_test Leads bound (λ test t. cc (is, holds test t)))
