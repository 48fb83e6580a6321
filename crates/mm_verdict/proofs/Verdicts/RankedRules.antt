-- The rules of meaning by their order: each statement breaks a first one, or none.
use Rattle.std.proofs.Common.{◌≡◌, ℕ, zero, suc, ◌≤◌, refl, arith, ◌≢◌, ◌<◌, List, [], ◌∷◌}
use Rattle.std.proofs.Common.{slice_get, Option, Some, None, ◌⊎◌, inl, inr, sym, ap, subst, ◌∙◌}
use Rattle.mm_frame.specs.declared.rule.MeaningRule.{MeaningRule}
use Rattle.mm_frame.specs.declared.rule.MeaningRule.TheVariants.{M1, M2, M3, M4, M5, M6, M7, M8, M9}
use Rattle.mm_frame.specs.declared.rule.MeaningRule.TheVariants.{M10, M11, M12, M13, M14, M15}
use Rattle.mm_frame.specs.Rules.{rank, Breaks, FirstBroken, IsMeant, ItsLabel, ItsFirst, ItsTyping}
use Rattle.std.proofs.lemmas.Bool.{cases_order}
use Rattle.std.proofs.lemmas.Option.{same_Some}
use Rattle.mm_base.specs.declared.statement.Kind.{Kind}
use Rattle.mm_base.specs.declared.statement.Kind.TheVariants.{Constants, Variables, Distinct}
use Rattle.mm_base.specs.declared.statement.Kind.TheVariants.{Floating, Essential, Axiom, Provable}
use Rattle.mm_frame.specs.Sentence.{Sentence, SomeSentence, IsStated, IsUse, Declares, IsLabelled}
use Rattle.mm_frame.specs.Sentence.{Types, StandsTwice}
use Rattle.mm_frame.specs.Active.{IsOpen, SomeActive, IsConstant, IsVariable, IsActiveSymbol}
use Rattle.mm_frame.specs.Active.{IsTyped}
use Rattle.mm_frame.proofs.Rules.DecidedStatements.{constant_dec, typed_dec, dec_both, dec_as}
use Rattle.mm_frame.proofs.Rules.DecidedStatements.{dec_some, kind_dec, symbol_dec, contains_dec}
use Rattle.mm_frame.proofs.Rules.DecidedStatements.{open_dec, dec_or, dec_not, label_dec}
use Rattle.mm_frame.proofs.Rules.DecidedStatements.{sentence_dec, some_active_dec, variable_dec}
use Rattle.std.proofs.Math.Decide.{dec_le}
use Rattle.mm_proof.proofs.Members.{dec_member}

-- ==== the rules of meaning by their order

-- the rule with this rank
pub ranked : ℕ → MeaningRule
ranked zero = M1
ranked (suc zero) = M1
ranked (suc (suc zero)) = M2
ranked (suc (suc (suc zero))) = M3
ranked (suc (suc (suc (suc zero)))) = M4
ranked (suc (suc (suc (suc (suc zero))))) = M5
ranked (suc (suc (suc (suc (suc (suc zero)))))) = M6
ranked (suc (suc (suc (suc (suc (suc (suc zero))))))) = M7
ranked (suc (suc (suc (suc (suc (suc (suc (suc zero)))))))) = M8
ranked (suc (suc (suc (suc (suc (suc (suc (suc (suc zero))))))))) = M9
ranked (suc (suc (suc (suc (suc (suc (suc (suc (suc (suc zero)))))))))) = M10
ranked (suc (suc (suc (suc (suc (suc (suc (suc (suc (suc (suc zero))))))))))) = M11
ranked (suc (suc (suc (suc (suc (suc (suc (suc (suc (suc (suc (suc zero)))))))))))) = M12
ranked (suc (suc (suc (suc (suc (suc (suc (suc (suc (suc (suc (suc (suc zero))))))))))))) = M13
ranked (suc (suc (suc (suc (suc (suc (suc (suc (suc (suc (suc (suc (suc (suc zero)))))))))))))) = M14
ranked (suc (suc (suc (suc (suc (suc (suc (suc (suc (suc (suc (suc (suc (suc (suc n))))))))))))))) = M15

pub ranked-rank : (rule : MeaningRule) → ranked (rank rule) ≡ rule
unfolding ranked
ranked-rank M1 = refl
ranked-rank _ = refl

-- no rule but the last one has a rank above its own number
pub rank-ranked : (n : ℕ) → rank (ranked (suc n)) ≤ suc n
unfolding ranked
rank-ranked (suc (suc (suc (suc (suc (suc (suc (suc (suc (suc (suc (suc (suc (suc n)))))))))))))) = omega arith
rank-ranked _ = omega arith

-- ==== each statement breaks a first rule of meaning, or none

-- ## What the rules ask

some_open_dec : (before : List Sentence) → Dec ((index : ℕ) × IsOpen before index)
some_open_dec before = dec_as (λ h. (h.0, h.3)) (λ h. (h.0, h.1.opening, h.1.there, h.1))
    (dec_some (λ k x. IsOpen before k) (λ k x. open_dec before k) before)

declares_dec : (kind : Kind) (x : List ℕ) (s : Sentence) → Dec (Declares kind x s)
declares_dec kind x s = dec_both (kind_dec s.kind kind) (contains_dec s.symbols x)

twice_dec : (symbols : List (List ℕ)) (x : List ℕ) → Dec (StandsTwice symbols x)
twice_dec symbols x = dec_as
    (λ (i, y, at_i, (is, (j, z, at_j, (same, apart)))).
    record { i = i; j = j; apart = apart; at_i = at_i ∙ ap Some is; at_j = at_j ∙ ap Some same })
    (λ h. (h.i, x, h.at_i, (refl, (h.j, x, h.at_j, (refl, h.apart)))))
    (dec_some (λ i y. (y ≡ x) × ((j : ℕ) × (z : List ℕ) × (slice_get symbols j ≡ Some z) × ((z ≡ x) × (i < j))))
    (λ i y. dec_both (symbol_dec y x) (dec_some (λ j z. (z ≡ x) × (i < j)) (λ j z. dec_both (symbol_dec z x) (dec_le (suc i) j)) symbols)) symbols)

labelled_dec : (before : List Sentence) (x : List ℕ) → Dec (SomeSentence before (IsLabelled x))
labelled_dec before x = sentence_dec before (IsLabelled x) (label_dec x)

its_label_dec : (s : Sentence) (P : List ℕ → Type 0) → ((x : List ℕ) → Dec (P x)) → (o : Option (List ℕ)) → s.label ≡ o → Dec (ItsLabel s P)
its_label_dec s P each None e = no (λ h. let f : None ≡ Some h.0 = sym e ∙ h.1 in absurd cc)
its_label_dec s P each (Some l) e = dec_as (λ p. (l, e, p)) (λ h. subst P (sym (same_Some l h.0 (sym e ∙ h.1))) h.2) (each l)

its_first_dec : (s : Sentence) (P : List ℕ → Type 0) → ((x : List ℕ) → Dec (P x)) → (symbols : List (List ℕ)) → s.symbols ≡ symbols → Dec (ItsFirst s P)
its_first_dec s P each [] e = no (λ h. let f : [] ≡ h.0 ∷ h.1 = sym e ∙ h.2 in absurd cc)
its_first_dec s P each (x ∷ symbols) e =
    dec_as (λ p. (x, symbols, e, p)) (λ h. let f : x ∷ symbols ≡ h.0 ∷ h.1 = sym e ∙ h.2 in let g : h.0 ≡ x = cc in subst P g h.3) (each x)

-- the type code and the variable of a `$f`
typing_at : (s : Sentence) (P : List ℕ → List ℕ → Type 0) → ((x y : List ℕ) → Dec (P x y)) → Dec (s.kind ≡ Floating)
    → (symbols : List (List ℕ)) → s.symbols ≡ symbols → Dec (ItsTyping s P)
typing_at s P each (no n) symbols e = no (λ t. n t.2.0)
typing_at s P each (yes k) [] e = no (λ t. let p : [] ≡ t.0 ∷ t.1 ∷ [] = sym e ∙ t.2.1 in absurd cc)
typing_at s P each (yes k) (a ∷ []) e = no (λ t. let p : a ∷ [] ≡ t.0 ∷ t.1 ∷ [] = sym e ∙ t.2.1 in absurd cc)
typing_at s P each (yes k) (a ∷ b ∷ c ∷ more) e = no (λ t. let p : a ∷ b ∷ c ∷ more ≡ t.0 ∷ t.1 ∷ [] = sym e ∙ t.2.1 in absurd cc)
typing_at s P each (yes k) (a ∷ b ∷ []) e = dec_as
    (λ p. (a, b, (k, e), p))
    (λ t.
    let f : a ∷ b ∷ [] ≡ t.0 ∷ t.1 ∷ [] = sym e ∙ t.2.1 in
    let first : t.0 ≡ a = cc in
    let second : t.1 ≡ b = cc in
    subst (λ (y : List ℕ). P a y) second (subst (λ (x : List ℕ). P x t.1) first t.3))
    (each a b)

its_typing_dec : (s : Sentence) (P : List ℕ → List ℕ → Type 0) → ((x y : List ℕ) → Dec (P x y)) → Dec (ItsTyping s P)
its_typing_dec s P each = typing_at s P each (kind_dec s.kind Floating) s.symbols refl

-- a `$f` that gives the variable a type code that is so
gives_dec : (x : List ℕ) (Q : List ℕ → Type 0) → ((code : List ℕ) → Dec (Q code)) → (f : Sentence) → Dec ((code : List ℕ) × Types code x f × Q code)
gives_dec x Q each f = dec_as
    (λ h. (h.0, subst (λ (y : List ℕ). Types h.0 y f) h.3.0 h.2, h.3.1))
    (λ h. (h.0, x, h.1, (refl, h.2)))
    (its_typing_dec f (λ code y. (y ≡ x) × Q code) (λ code y. dec_both (symbol_dec y x) (each code)))

active_symbol_dec : (before : List Sentence) (x : List ℕ) → Dec (IsActiveSymbol before x)
active_symbol_dec before x =
    some_active_dec before (λ s. Declares Constants x s ⊎ Declares Variables x s) (λ s. dec_or (declares_dec Constants x s) (declares_dec Variables x s))

stated_dec : (s : Sentence) → Dec (IsStated s.kind)
stated_dec s = dec_or (kind_dec s.kind Essential) (dec_or (kind_dec s.kind Axiom) (kind_dec s.kind Provable))

use_dec : (s : Sentence) → Dec (IsUse s.kind)
use_dec s = dec_or (kind_dec s.kind Distinct) (dec_or (kind_dec s.kind Floating) (stated_dec s))

-- ## Whether a statement breaks a rule

breaks_dec : (rule : MeaningRule) (before : List Sentence) (s : Sentence) → Dec (Breaks rule before s)
breaks_dec M1 before s =
    dec_as (λ h. (h.0, h.1.0, h.1.1)) (λ h. (h.0, (h.1, h.2))) (dec_both (kind_dec s.kind Constants) (some_open_dec before))
breaks_dec M2 before s = dec_both (kind_dec s.kind Constants)
    (dec_member (λ x. IsConstant before x ⊎ IsVariable before x ⊎ StandsTwice s.symbols x)
    (λ x. dec_or (constant_dec before x) (dec_or (variable_dec before x) (twice_dec s.symbols x))) s.symbols)
breaks_dec M3 before s = dec_both (kind_dec s.kind Variables)
    (dec_member (λ x. SomeActive before (Declares Variables x) ⊎ IsConstant before x ⊎ StandsTwice s.symbols x)
    (λ x. dec_or (some_active_dec before (Declares Variables x) (declares_dec Variables x)) (dec_or (constant_dec before x) (twice_dec s.symbols x))) s.symbols)
breaks_dec M4 before s = dec_both (dec_or (kind_dec s.kind Constants) (kind_dec s.kind Variables))
    (dec_member (λ x. SomeSentence before (IsLabelled x)) (labelled_dec before) s.symbols)
breaks_dec M5 before s = its_label_dec s (λ l. SomeSentence before (IsLabelled l)) (labelled_dec before) s.label refl
breaks_dec M6 before s =
    its_label_dec s (λ l. IsConstant before l ⊎ IsVariable before l) (λ l. dec_or (constant_dec before l) (variable_dec before l)) s.label refl
breaks_dec M7 before s = dec_both (use_dec s) (dec_member (λ x. ¬ (IsActiveSymbol before x)) (λ x. dec_not (active_symbol_dec before x)) s.symbols)
breaks_dec M8 before s = dec_both (kind_dec s.kind Distinct) (dec_member (IsConstant before) (constant_dec before) s.symbols)
breaks_dec M9 before s = dec_both (kind_dec s.kind Distinct) (dec_member (StandsTwice s.symbols) (twice_dec s.symbols) s.symbols)
breaks_dec M10 before s = its_typing_dec s (λ code x. IsVariable before code) (λ code x. variable_dec before code)
breaks_dec M11 before s = its_typing_dec s (λ code x. IsConstant before x) (λ code x. constant_dec before x)
breaks_dec M12 before s = its_typing_dec s (λ code x. IsTyped before x) (λ code x. typed_dec before x)
breaks_dec M13 before s = its_typing_dec s (λ code x. SomeSentence before (λ f. (other : List ℕ) × Types other x f × (other ≢ code)))
    (λ code x. sentence_dec before (λ f. (other : List ℕ) × Types other x f × (other ≢ code))
    (λ f. gives_dec x (λ other. other ≢ code) (λ other. dec_not (symbol_dec other code)) f))
breaks_dec M14 before s = dec_both (stated_dec s) (its_first_dec s (IsVariable before) (variable_dec before) s.symbols refl)
breaks_dec M15 before s = dec_both (stated_dec s)
    (dec_member (λ x. IsVariable before x × ¬ (IsTyped before x)) (λ x. dec_both (variable_dec before x) (dec_not (typed_dec before x))) s.symbols)

-- ## The first rule that it breaks

no_rank_zero : (rule : MeaningRule) → rank rule ≤ 0 → ⊥
no_rank_zero M1 h = absurd (omega arith)
no_rank_zero rule h = absurd (omega arith)

last_rank : (rule : MeaningRule) → rank rule ≤ 15
last_rank M1 = omega arith
last_rank _ = omega arith

-- the first rule that is broken among those up to a rank, or that none of them is
abbrev JudgedUpTo : List Sentence → Sentence → ℕ → Type 0
JudgedUpTo before s n =
    ((rule : MeaningRule) × FirstBroken rule before s) ⊎ ((rule : MeaningRule) → rank rule ≤ n → ¬ (Breaks rule before s))

next_judged : (before : List Sentence) (s : Sentence) (n : ℕ) (next : MeaningRule) → ((rule : MeaningRule) → rank rule ≡ suc n → rule ≡ next)
    → rank next ≤ suc n → Dec (Breaks next before s) → JudgedUpTo before s n → JudgedUpTo before s (suc n)
next_judged before s n next only low broken (inl f) = inl f
next_judged before s n next only low (yes b) (inr none) =
    inl (next, record { broken = b; first = λ other less. none other (omega arith) })
next_judged before s n next only low (no b) (inr none) = inr (λ rule h.
    elim (cases_order (rank rule) (suc n)) [
      | inl same ↦ subst (λ (r : MeaningRule). ¬ (Breaks r before s)) (sym (only rule same)) b
      | inr (inl less) ↦ none rule (omega arith)
      | inr (inr more) ↦ absurd (omega arith)
    ])

judged_up_to : (before : List Sentence) (s : Sentence) (n : ℕ) → JudgedUpTo before s n
judged_up_to before s zero = inr (λ rule h. absurd (no_rank_zero rule h))
judged_up_to before s (suc n) =
    next_judged before s n (ranked (suc n)) (λ rule e. sym (ranked-rank rule) ∙ ap ranked e) (rank-ranked n)
    (breaks_dec (ranked (suc n)) before s) (judged_up_to before s n)

-- each statement breaks a first rule, or none
pub some_meaning : (before : List Sentence) (s : Sentence) → IsMeant before s ⊎ ((rule : MeaningRule) × FirstBroken rule before s)
some_meaning before s = elim (judged_up_to before s 15) [
  | inl f ↦ inr f
  | inr none ↦ inl (λ rule. none rule (last_rank rule))
]
