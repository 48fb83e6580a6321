-- Patterns among expressions, one after the other. On this file rests the contract of `is_asked_for`.
use Rattle.std.proofs.Common.{◌≡◌, ◌↔◌, ◌⊎◌, inl, inr, List, [], ◌∷◌, ℕ, ◌+◌, ◌<◌, ◌≤◌, drop}
use Rattle.std.proofs.Common.{length, get_or}
use Rattle.std.proofs.Common.{ap, sym, subst, ◌∙◌, ◌++◌, Bool, true, false}
use Rattle.std.specs.Global.{Vec}
use Rattle.std.specs.List.{AllByRecursion}
use denote.Ref.{Bor}
use Rattle.std.proofs.lemmas.Bool.{false≢true, true≢false}
use Rattle.std.proofs.lemmas.List.{drop_more, drop_all, map-append}
use Rattle.mm_code.specs.Layout.{texts}
use Rattle.mm_find.specs.Found.{PlainAssertion, SomeExpression, looked_into}
use Rattle.mm_find.specs.Plain.{expressions_in}

module _ (lists : List (Vec (Bor (List ℕ)))) (i : ℕ) where
  abbrev rest : List (List (List ℕ))
  rest = expressions_in (drop i lists)

  -- none is left
  past : length lists ≤ i → rest ≡ []
  past end = ap expressions_in (drop_all i lists end)

  -- the first expression that is left
  module _ (d : Vec (Bor (List ℕ))) (own : List (Bor (List ℕ))) (at : d ≡ get_or lists i d)
      (is : own ≡ d.items)
      (less : i < length lists) where
    next : rest ≡ texts own ∷ expressions_in (drop (i + 1) lists)
    next =
        ap expressions_in (drop_more lists i d less)
        ∙ ap (λ (o : List (Bor (List ℕ))). texts o ∷ expressions_in (drop (i + 1) lists))
        (sym (is ∙ ap (λ (v : Vec (Bor (List ℕ))). v.items) at))

    -- one of those that are left has the pattern
    pub one_met : (Q : List (List ℕ) → Type 0) (P : Type 0) → Q (texts own)
        → (P ↔ SomeExpression Q rest) → P
    one_met Q P has all =
        all.1 (subst (λ (es : List (List (List ℕ))). SomeExpression Q es) (sym next) (inl has))

    pub one_unmet : (Q : List (List ℕ) → Type 0) (P : Type 0) → ¬ (Q (texts own))
        → (P ↔ SomeExpression Q rest)
        → (P ↔ SomeExpression Q (expressions_in (drop (i + 1) lists)))
    one_unmet Q P lacks all =
        let split : P ↔ (Q (texts own) ⊎ SomeExpression Q
        (expressions_in (drop (i + 1) lists))) =
        subst (λ (es : List (List (List ℕ))). P ↔ SomeExpression Q es) next all in (
          (λ p. elim (split.0 p) [ inl has ↦ absurd (lacks has) | inr later ↦ later ]),
          (λ later. split.1 (inr later)),
        )

    -- each of those that are left is so
    pub each_met : (R : List (List ℕ) → Type 0) (P : Type 0) → R (texts own)
        → (P ↔ AllByRecursion R rest)
        → (P ↔ AllByRecursion R (expressions_in (drop (i + 1) lists)))
    each_met R P so all =
        let split : P ↔ (R (texts own) × AllByRecursion R (expressions_in (drop (i + 1) lists))) =
        subst (λ (es : List (List (List ℕ))). P ↔ AllByRecursion R es) next all in
        ((λ p. (split.0 p).1), (λ later. split.1 (so, later)))

    pub each_unmet : (R : List (List ℕ) → Type 0) (P : Type 0) → ¬ (R (texts own))
        → (P ↔ AllByRecursion R rest) → ¬ P
    each_unmet R P lacks all p =
        let split : R (texts own) × AllByRecursion R (expressions_in (drop (i + 1) lists)) =
        subst (λ (es : List (List (List ℕ))). AllByRecursion R es) next (all.0 p) in
        lacks split.0

  pub none_met : (Q : List (List ℕ) → Type 0) (P : Type 0) → length lists ≤ i →
      (P ↔ SomeExpression Q rest)
      → ¬ P
  none_met Q P end all p =
      let never : SomeExpression Q [] =
      subst (λ (es : List (List (List ℕ))). SomeExpression Q es) (past end) (all.0 p) in
      never

  pub all_met : (R : List (List ℕ) → Type 0) (P : Type 0) → length lists ≤ i →
      (P ↔ AllByRecursion R rest)
      → P
  all_met R P end all =
      all.1 (subst (λ (es : List (List (List ℕ))). AllByRecursion R es) (sym (past end)) tt)

-- ---- the expressions that are looked into

module _ (a : PlainAssertion) (Q : List (List ℕ) → Type 0) where
  pub first_met : (hypotheses : Bool) → Q a.expression
      → SomeExpression Q (looked_into hypotheses a)
  first_met true has = inl has
  first_met false has = inl has

  pub none_looked : (hypotheses : Bool) → hypotheses ≡ false → ¬ (Q a.expression)
      → ¬ (SomeExpression Q (looked_into hypotheses a))
  none_looked true off lacks some = absurd (true≢false off)
  none_looked false off lacks (inl has) = lacks has
  none_looked false off lacks (inr later) = later

  pub later_met : (hypotheses : Bool) (P : Type 0) → hypotheses ≡ true
      → ¬ (Q a.expression) → (P ↔ SomeExpression Q a.hypotheses)
      → (P ↔ SomeExpression Q (looked_into hypotheses a))
  later_met true P on lacks told = (
    (λ p. inr (told.0 p)),
    (λ some. elim some [
      | inl has ↦ absurd
          (lacks has)
      | inr later ↦ told.1 later
    ]),
  )
  later_met false P on lacks told = absurd (false≢true on)

-- ---- the shape of a pattern

pub anywhere_told : (s₀ s₁ s₂ s₃ tokens : List (Bor (List ℕ))) (first last : Bor (List ℕ)) → s₀ ≡ []
    → s₁ ≡ s₀ ++ first ∷ [] → s₂ ≡ s₁ ++ tokens → s₃ ≡ s₂ ++ last ∷ []
    → texts s₃ ≡ first.now ∷ (texts tokens ++ last.now ∷ [])
anywhere_told s₀ s₁ s₂ s₃ tokens first last h₀ h₁ h₂ h₃ =
    let whole : s₃ ≡ first ∷ (tokens ++ last ∷ []) =
    h₃ ∙ ap (λ (s : List (Bor (List ℕ))). s ++ last ∷ [])
    (h₂ ∙ ap (λ (s : List (Bor (List ℕ))). s ++ tokens)
    (h₁ ∙ ap (λ (s : List (Bor (List ℕ))). s ++ first ∷ []) h₀)) in
    ap texts whole
    ∙ ap (λ (r : List (List ℕ)). first.now ∷ r) (map-append (λ (t : Bor (List ℕ)). t.now) tokens
    (last ∷ []))
