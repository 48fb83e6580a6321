-- The rules that are asked of a statement, one after the other, as they are judged.
use Rattle.std.proofs.Common.{◌≡◌, ℕ, zero, suc, ◌+◌, ◌<◌, ◌≤◌, length, get_or, List, [], ◌∷◌}
use Rattle.std.proofs.Common.{Contains, inl, inr, refl, sym, ◌∙◌, ap, subst, arith, ◌⊎◌}
use Rattle.std.proofs.lemmas.Bool.{cases_lt}
use Rattle.std.proofs.lemmas.List.{get_or_default}
use Rattle.mm_base.specs.declared.statement.Kind.{Kind}
use Rattle.mm_base.specs.declared.statement.Kind.TheVariants.{Constants, Variables, Distinct}
use Rattle.mm_base.specs.declared.statement.Kind.TheVariants.{Floating, Essential, Axiom, Provable}
use Rattle.mm_base.specs.declared.statement.Kind.TheVariants.{Opening, Closing}
use Rattle.mm_frame.specs.declared.rule.MeaningRule.{MeaningRule}
use Rattle.mm_frame.specs.declared.rule.MeaningRule.TheVariants.{M1, M2, M3, M4, M5, M6, M7, M8, M9}
use Rattle.mm_frame.specs.declared.rule.MeaningRule.TheVariants.{M10, M11, M12, M13, M14, M15}
use Rattle.mm_frame.specs.Sentence.{Sentence, IsStated, IsUse}
use Rattle.mm_frame.specs.Rules.{Breaks, IsMeant, FirstBroken, rank}
use Rattle.mm_frame.specs.Mirror.Asked.{rules_of}

-- the ranks of the rules rise, from above this number
abbrev AreRising : ℕ → List MeaningRule → Type 0
AreRising n [] = Unit {0}
AreRising n (rule ∷ rules) = (n < rank rule) × AreRising (rank rule) rules

above : (n : ℕ) (rules : List MeaningRule) (i : ℕ) (d : MeaningRule) → AreRising n rules → i < length rules → n < rank (get_or rules i d)
above n [] i d rising lt = absurd (omega arith)
above n (rule ∷ rules) zero d rising lt = rising.0
above n (rule ∷ rules) (suc i) d rising lt = let e = above (rank rule) rules i d rising.1 (omega arith) in let f = rising.0 in omega arith

rises : (n : ℕ) (rules : List MeaningRule) (i j : ℕ) (d : MeaningRule) → AreRising n rules → i < j → j < length rules → rank (get_or rules i d) < rank (get_or rules j d)
rises n (rule ∷ rules) zero (suc j) d rising lt within = above (rank rule) rules j d rising.1 (omega arith)
rises n (rule ∷ rules) (suc i) (suc j) d rising lt within = rises (rank rule) rules i j d rising.1 (omega arith) (omega arith)
rises n rules i j d rising lt within = absurd (omega arith)

rules_rise : (kind : Kind) → AreRising 0 (rules_of kind)
rules_rise Variables = (omega arith, (omega arith, (omega arith, (omega arith, tt))))
rules_rise Floating = (omega arith, (omega arith, (omega arith, (omega arith, (omega arith, (omega arith, (omega arith, tt)))))))
rules_rise Opening = (omega arith, (omega arith, tt))
rules_rise Closing = (omega arith, (omega arith, tt))
rules_rise kind = (omega arith, (omega arith, (omega arith, (omega arith, (omega arith, tt)))))

-- the rule is asked of a statement of the kind
abbrev IsAsked : MeaningRule → Kind → Type 0
IsAsked rule kind = Contains (rules_of kind) rule

-- what is asked of one kind is asked of a kind that equals it
of_kind : (rule : MeaningRule) (one kind : Kind) → kind ≡ one → IsAsked rule one → IsAsked rule kind
of_kind rule one kind same asked = subst (λ k. IsAsked rule k) (sym same) asked

asked_m5 : (kind : Kind) → IsAsked M5 kind
asked_m5 Constants = (3, omega arith, refl)
asked_m5 Variables = (2, omega arith, refl)
asked_m5 kind = (0, omega arith, refl)

asked_m6 : (kind : Kind) → IsAsked M6 kind
asked_m6 Constants = (4, omega arith, refl)
asked_m6 Variables = (3, omega arith, refl)
asked_m6 kind = (1, omega arith, refl)

-- a rule that is asked of each kind of statement that states an expression
asked_stated : (rule : MeaningRule) (kind : Kind) → IsAsked rule Essential → IsAsked rule Axiom → IsAsked rule Provable → IsStated kind → IsAsked rule kind
asked_stated rule kind e a p (inl is) = of_kind rule Essential kind is e
asked_stated rule kind e a p (inr (inl is)) = of_kind rule Axiom kind is a
asked_stated rule kind e a p (inr (inr is)) = of_kind rule Provable kind is p

asked_m7 : (kind : Kind) → IsUse kind → IsAsked M7 kind
asked_m7 kind (inl is) = of_kind M7 Distinct kind is (2, omega arith, refl)
asked_m7 kind (inr (inl is)) = of_kind M7 Floating kind is (2, omega arith, refl)
asked_m7 kind (inr (inr stated)) = asked_stated M7 kind (2, omega arith, refl) (2, omega arith, refl) (2, omega arith, refl) stated

asked_m4 : (kind : Kind) → (kind ≡ Constants) ⊎ (kind ≡ Variables) → IsAsked M4 kind
asked_m4 kind (inl is) = of_kind M4 Constants kind is (2, omega arith, refl)
asked_m4 kind (inr is) = of_kind M4 Variables kind is (1, omega arith, refl)

-- a rule that a statement breaks is asked of its kind
asked : (rule : MeaningRule) (before : List Sentence) (s : Sentence) → Breaks rule before s → IsAsked rule s.kind
asked M1 before s broken = of_kind M1 Constants s.kind broken.0 (0, omega arith, refl)
asked M2 before s broken = of_kind M2 Constants s.kind broken.0 (1, omega arith, refl)
asked M3 before s broken = of_kind M3 Variables s.kind broken.0 (0, omega arith, refl)
asked M4 before s broken = asked_m4 s.kind broken.0
asked M5 before s broken = asked_m5 s.kind
asked M6 before s broken = asked_m6 s.kind
asked M7 before s broken = asked_m7 s.kind broken.0
asked M8 before s broken = of_kind M8 Distinct s.kind broken.0 (3, omega arith, refl)
asked M9 before s broken = of_kind M9 Distinct s.kind broken.0 (4, omega arith, refl)
asked M10 before s (code, x, types, broken) = of_kind M10 Floating s.kind types.0 (3, omega arith, refl)
asked M11 before s (code, x, types, broken) = of_kind M11 Floating s.kind types.0 (4, omega arith, refl)
asked M12 before s (code, x, types, broken) = of_kind M12 Floating s.kind types.0 (5, omega arith, refl)
asked M13 before s (code, x, types, broken) = of_kind M13 Floating s.kind types.0 (6, omega arith, refl)
asked M14 before s broken = asked_stated M14 s.kind (3, omega arith, refl) (3, omega arith, refl) (3, omega arith, refl) broken.0
asked M15 before s broken = asked_stated M15 s.kind (4, omega arith, refl) (4, omega arith, refl) (4, omega arith, refl) broken.0

-- none of the first rules that are asked of the statement is broken
pub record NoneOfFirst (n : ℕ) (before : List Sentence) (s : Sentence) : Type 0 where
  pub kept : (i : ℕ) (d : MeaningRule) → i < n → i < length (rules_of s.kind) → ¬ (Breaks (get_or (rules_of s.kind) i d) before s)

pub none_of_more : (n : ℕ) (before : List Sentence) (s : Sentence) (rule d : MeaningRule) → NoneOfFirst n before s → rule ≡ get_or (rules_of s.kind) n d → ¬ (Breaks rule before s) → NoneOfFirst (n + 1) before s
none_of_more n before s rule d none is unbroken = record {
  kept = λ i e lt within.
      elim (cases_lt i n) [
        | inl below ↦ none.kept i e below within
        | inr beyond ↦
            let k : n ≡ i = omega arith in
            rw (rw k at is ∙ get_or_default (rules_of s.kind) i d e within) at unbroken
      ];
}

pub first_at : (n : ℕ) (before : List Sentence) (s : Sentence) (rule d : MeaningRule) → n < length (rules_of s.kind) → NoneOfFirst n before s → rule ≡ get_or (rules_of s.kind) n d → Breaks rule before s → FirstBroken rule before s
first_at n before s rule d lt none is broken = record {
  broken = broken;
  first = λ other less other_broken.
      let (i, within, there) = asked other before s other_broken in
      let same : other ≡ get_or (rules_of s.kind) i d = sym there ∙ get_or_default (rules_of s.kind) i other d within in
      elim (cases_lt i n) [
        | inl below ↦ none.kept i d below within (subst (λ r. Breaks r before s) same other_broken)
        | inr beyond ↦
            elim (cases_lt n i) [
              | inl above_n ↦
                  let order = rises 0 (rules_of s.kind) n i d (rules_rise s.kind) above_n within in
                  absurd (let e : rank rule ≡ rank (get_or (rules_of s.kind) n d) = ap rank is in
                  let f : rank other ≡ rank (get_or (rules_of s.kind) i d) = ap rank same in omega arith)
              | inr below ↦
                  let k : n ≡ i = omega arith in
                  let e : rank rule ≡ rank (get_or (rules_of s.kind) i d) = ap rank (subst (λ (j : ℕ). rule ≡ get_or (rules_of s.kind) j d) k is) in
                  let f : rank other ≡ rank (get_or (rules_of s.kind) i d) = ap rank same in
                  absurd (omega arith)
            ]
      ];
}

pub all_kept : (n : ℕ) (before : List Sentence) (s : Sentence) → length (rules_of s.kind) ≤ n → NoneOfFirst n before s → IsMeant before s
all_kept n before s le none = λ rule broken.
    let (i, within, there) = asked rule before s broken in
    none.kept i rule (omega arith) within (subst (λ r. Breaks r before s) (sym there) broken)
