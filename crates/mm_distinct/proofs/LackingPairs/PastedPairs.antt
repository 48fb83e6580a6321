-- The `$d` statements that a proof lacks may be put before it: each variable on the stack is
-- active, so that with them the statements break no rule of meaning.
use Rattle.std.proofs.Common.{◌≡◌, ℕ, zero, suc, ◌<◌, List, [], ◌∷◌, ◌++◌, length, map, take, drop}
use Rattle.std.proofs.Common.{slice_get, Contains, Option, Some, option_map, ◌⊎◌, inl, inr}
use Rattle.std.proofs.Common.{⊎_elim, refl, sym, ap, subst, ◌∙◌, arith, append-nil, append_assoc}
use Rattle.std.specs.List.{AllByRecursion}
use Rattle.std.proofs.lemmas.Option.{same_Some, none-some, slice_get-map, slice_get_within}
use Rattle.std.proofs.lemmas.Bool.{false≢true}
use Rattle.std.proofs.lemmas.List.{take_all}
use Rattle.mm_base.specs.declared.statement.Kind.TheVariants.{Constants, Variables, Distinct}
use Rattle.mm_base.specs.declared.statement.Kind.TheVariants.{Floating, Essential, Closing}
use Rattle.mm_base.proofs.Lists.{all_at, all_back, get_beside, get_from_take, get_kept, take_next}
use Rattle.mm_frame.specs.declared.rule.MeaningRule.TheVariants.{M1, M2, M3, M4, M5, M6, M7, M8, M9}
use Rattle.mm_frame.specs.declared.rule.MeaningRule.TheVariants.{M10, M11, M12, M13, M14, M15}
use Rattle.mm_frame.specs.Sentence.{Sentence, IsHypothesis, IsStated, Declares}
use Rattle.mm_frame.specs.Active.{IsActive, SomeActive, IsConstant, IsVariable}
use Rattle.mm_frame.specs.Frame.{IsMandatory}
use Rattle.mm_frame.specs.Rules.{AllMeant, IsMeant, ItsTyping}
use Rattle.mm_frame.proofs.Blocks.ActiveStatements.{active_stays, active_nest, active_falls}
use Rattle.mm_frame.proofs.Rules.ObeyedRules.{meant_at, allmeant_prefix, allmeant_push, one_role}
use Rattle.mm_frame.proofs.Rules.ObeyedRules.{some_later, used_declared, mandatory_typed}
use Rattle.mm_frame.proofs.Rules.SymbolLookups.{active_symbol}
use Rattle.mm_frame.proofs.Rules.DecidedStatements.{some_active_dec, constant_dec, dec_or, dec_both}
use Rattle.mm_frame.proofs.Rules.DecidedStatements.{kind_dec, contains_dec, unless_not}
use Rattle.mm_step.specs.Substitution.{Symbol, IsOn, instance_of}
use Rattle.mm_step.specs.Tree.{Trees, none, tree, Names, DeriveAll}
use Rattle.mm_step.specs.Moves.{Move}
use Rattle.mm_step.specs.Proof.{MeetsHypotheses}
use Rattle.mm_distinct.specs.Lacking.{distinct_sentence, with_pairs, AskDisjoint}
use Rattle.mm_step.proofs.ProofSteps.OneStep.{typing_among}
use Rattle.mm_proof.proofs.ProofNumbers.DeclaredSymbols.{in_instance, typing_has}
use Rattle.mm_distinct.proofs.LackingPairs.WithPairs.{added_cases, same_prefix, names_fall}
use Rattle.mm_distinct.proofs.LackingPairs.WithPairs.{named_before, meets_fall, pair_back}

-- ==== the variables on the stack are active

-- an active `$v` declares the symbol
abbrev IsActiveVariable : List Sentence → List ℕ → Type 0
IsActiveVariable before u = SomeActive before (Declares Variables u)

-- one does for each variable of the expression
abbrev HasActive : List Sentence → List (List ℕ) → Type 0
HasActive before e = (u : List ℕ) → Contains e u → IsVariable before u → IsActiveVariable before u

module _ (before : List Sentence) (all : AllMeant before) where
  -- those of an active hypothesis
  hypothesis_active : (i : ℕ) (h : Sentence) → slice_get before i ≡ Some h → IsActive before i
      → IsHypothesis h.kind → HasActive before h.symbols
  hypothesis_active i h there active kind u has variable =
      let prefix : List Sentence = take i before in
      let meant = meant_at before i h all there in
      let uses = ⊎_elim (λ f. inr (inl f)) (λ e. inr (inr (inl e))) kind in
      let known : IsConstant prefix u ⊎ IsActiveVariable prefix u =
      unless_not (dec_or (constant_dec prefix u)
      (some_active_dec prefix (Declares Variables u) (λ s. dec_both (kind_dec s.kind Variables)
      (contains_dec s.symbols u))))
      (λ none. meant M7
      (uses, (u, has, λ a. none ((active_symbol prefix u (allmeant_prefix before i all)).0 a)))) in
      elim known [
        | inl constant ↦
            absurd (one_role before u all (some_later before i (Declares Constants u) constant)
            variable)
        | inr (j, s, at, act, declares) ↦
            let (less, at_j) = get_from_take before i j s at in
            let within = slice_get_within before i h there in
            let stays : IsActive (take (suc i) before) j =
            subst (λ l. IsActive l j) (sym (take_next before i h there))
            (active_stays prefix h j (not_closing kind) act) in
            let whole : take (length before) before ≡ before = take_all (length before) before
            (omega arith) in
            let now = active_nest before j i (length before) less within stays
            (subst (λ l. IsActive l i) (sym whole) active) in
            (j, s, at_j, subst (λ l. IsActive l j) whole now, declares)
      ]
    where
      not_closing : IsHypothesis h.kind → ¬ (h.kind ≡ Closing)
      not_closing (inl f) e = let same : Floating ≡ Closing = sym f ∙ e in absurd cc
      not_closing (inr f) e = let same : Essential ≡ Closing = sym f ∙ e in absurd cc

  -- those of what an assertion makes
  made_active : (label : List ℕ) (index : ℕ) (a : Sentence) (hs : List Sentence)
      (σ : List ℕ → Option (List (List ℕ))) → Names before label index a hs
      → IsOn (IsMandatory (take index before) a) σ
      → AllByRecursion (HasActive before) (map (λ (h : Sentence). instance_of σ h.symbols) hs)
      → HasActive before (instance_of σ a.symbols)
  made_active label index a hs σ names on asked u c variable = elim (in_instance σ a.symbols u c) [
    | inl (own, unreplaced) ↦
        let meant = meant_at before index a all names.there in
        elim (used_declared (take index before) a u meant (inr (inr (inr names.kind))) own) [
          | inl constant ↦
              absurd (one_role before u all
              (some_later before index (Declares Constants u) constant) variable)
          | inr v ↦ absurd (false≢true (rw unreplaced at ((on u).1 (v, inl own))))
        ]
    | inr (x, v, has, is, in_v) ↦
        let mandatory = (on x).0 (rw is refl) in
        let typed = mandatory_typed (take index before) a x (allmeant_prefix before index all)
        (meant_at before index a all names.there) (inr names.kind) mandatory in
        let f = typing_among before label index a hs x names mandatory typed in
        let at = slice_get-map (λ (h : Sentence). instance_of σ h.symbols) hs f.0
        ∙ ap (option_map (λ (h : Sentence). instance_of σ h.symbols)) f.3 in
        all_at (HasActive before) _ f.0 (instance_of σ f.1.symbols) asked at u
        (subst (λ l. Contains (instance_of σ l) u) (sym f.4.1) (typing_has σ f.2 x v u is in_v))
        variable
  ]

  -- those of what trees derive, with a `$d` for each pair
  derived_active : (Fits : List (List ℕ) → Type 0) (pairs : List (Symbol × Symbol)) (trees : Trees)
      (es : List (List (List ℕ)))
      → DeriveAll Fits (with_pairs before pairs) trees es → AllByRecursion (HasActive before) es
  derived_active Fits pairs none es derived = subst (AllByRecursion (HasActive before))
      (sym derived) tt
  derived_active Fits pairs (tree label below right) es (e, others, parts, fits, made, rest) =
      let first : HasActive before e = ⊎_elim
      (λ l. subst (HasActive before) (sym l.1.4.2) (leaf l.1.0 l.1.1 l.1.2 l.1.3 l.1.4.1))
      (λ a. subst (HasActive before) (sym a.8)
      (made_active label a.0 a.1 a.2 a.3 (names_fall before pairs label a.0 a.1 a.2 a.4)
      (subst (λ l. IsOn (IsMandatory l a.1) a.3) (same_prefix before pairs a.0 a.1
      (named_before before pairs label a.0 a.1 a.2 a.4)) a.5)
      (derived_active Fits pairs below (map (λ (h : Sentence). instance_of a.3 h.symbols) a.2)
      a.6)))
      made in
      subst (AllByRecursion (HasActive before)) (sym parts) (
        first,
        derived_active Fits pairs right
            others rest,
      )
    where
      leaf : (i : ℕ) (h : Sentence) → slice_get (with_pairs before pairs) i ≡ Some h
          → IsActive (with_pairs before pairs) i
          → IsHypothesis h.kind → HasActive before h.symbols
      leaf i h there active kind = elim (added_cases before pairs i h there) [
        | inl at ↦
            hypothesis_active i h at (active_falls before (map distinct_sentence pairs) i
            (slice_get_within before i h at) active) kind
        | inr (p, is) ↦ absurd (other (ap (λ (s : Sentence). s.kind) is) kind)
      ]
        where
          other : Distinct ≡ h.kind → IsHypothesis h.kind → ⊥
          other e (inl f) = let same : Distinct ≡ Floating = e ∙ f in absurd cc
          other e (inr f) = let same : Distinct ≡ Essential = e ∙ f in absurd cc

  -- those of what replaces a mandatory variable
  value_active : (stack : List (List (List ℕ))) (label : List ℕ)
      (m : MeetsHypotheses before stack label) (x : List ℕ) (e : List (List ℕ))
      → IsMandatory (take m.index before) m.assertion x → m.σ x ≡ Some e
      → AllByRecursion (HasActive before) stack → HasActive before e
  value_active stack label m x e mandatory is active u has variable =
      let typed = mandatory_typed (take m.index before) m.assertion x
      (allmeant_prefix before m.index all)
      (meant_at before m.index m.assertion all m.names.there) (inr m.names.kind) mandatory in
      let f = typing_among before label m.index m.assertion m.hypotheses x m.names mandatory
      typed in
      let entry = get_beside m.hypotheses m.entries f.0 f.1 m.paired f.3 in
      let same : e ≡ drop 1 entry.0 = same_Some e (drop 1 entry.0)
      (sym is ∙ m.replaced f.0 f.1 entry.0 f.2 x f.3 entry.1 f.4) in
      let entries = all_back (HasActive before) m.rest m.entries (rw m.split at active) in
      later entry.0 (all_at (HasActive before) m.entries f.0 entry.0 entries entry.1) u
      (subst (λ l. Contains l u) same has) variable
    where
      later : (e : List (List ℕ)) → HasActive before e → HasActive before (drop 1 e)
      later [] active u has variable = active u has variable
      later (y ∷ e) active u has variable = active u (suc has.0, omega (arith, has.1), has.2)
          variable

  -- the pair that a step asks for
  asked_active : (Fits : List (List ℕ) → Type 0) (pairs : List (Symbol × Symbol))
      (moves : List (Move (List ℕ))) (u v : Symbol)
      → IsVariable before u → IsVariable before v → AskDisjoint Fits (with_pairs before pairs) moves u
      v
      → IsActiveVariable before u × IsActiveVariable before v
  asked_active Fits pairs moves u v is_u is_v a =
      let b = a.asked in
      let m = meets_fall before pairs a.stack a.label b.0 in
      let pair = pair_back before pairs a.stack a.label m b.1 b.2 b.5 in
      let active = derived_active Fits pairs a.passed.trees a.stack a.passed.derived in (
        value_active a.stack a.label m b.1 b.3 pair.1 b.6 active u b.8.0 is_u,
        value_active a.stack a.label m b.2 b.4 pair.2 b.7 active v b.8.1 is_v,
      )

-- ==== a `$d` of two active variables breaks no rule of meaning

of_two : (p : Symbol × Symbol) (x : List ℕ) → Contains (p.0 ∷ p.1 ∷ []) x → (x ≡ p.0) ⊎ (x ≡ p.1)
of_two p x (zero, less, is) = inl (sym is)
of_two p x (suc zero, less, is) = inr (sym is)
of_two p x (suc (suc k), less, is) = absurd (omega arith)

untyped : (p : Symbol × Symbol) (P : List ℕ → List ℕ → Type 0) → ItsTyping (distinct_sentence p) P
    → ⊥
untyped p P b = let e : Distinct ≡ Floating = b.2.0 in absurd cc

unstated : IsStated Distinct → ⊥
unstated (inl e) = absurd cc
unstated (inr (inl e)) = absurd cc
unstated (inr (inr e)) = absurd cc

distinct_meant : (before : List Sentence) (p : Symbol × Symbol) → AllMeant before → (p.0 ≡ p.1 → ⊥)
    → IsActiveVariable before p.0 → IsActiveVariable before p.1
    → IsMeant before (distinct_sentence p)
distinct_meant before p all differ first second M7 (uses, (x, has, inactive)) =
    inactive ((active_symbol before x all).1
    (inr (⊎_elim (λ e. subst (IsActiveVariable before) (sym e) first)
    (λ e. subst (IsActiveVariable before) (sym e) second) (of_two p x has))))
distinct_meant before p all differ first second M8 (kind, (x, has, constant)) =
    let variable : IsVariable before x = ⊎_elim
    (λ e. subst (IsVariable before) (sym e) (first.0, first.1, first.2, first.4))
    (λ e. subst (IsVariable before) (sym e) (second.0, second.1, second.2, second.4))
    (of_two p x has) in
    one_role before x all constant variable
distinct_meant before p all differ first second M9 (kind, (x, has, twice)) =
    go twice.i twice.j twice.apart twice.at_i twice.at_j
  where
    go : (i j : ℕ) → i < j → slice_get (p.0 ∷ p.1 ∷ []) i ≡ Some x
        → slice_get (p.0 ∷ p.1 ∷ []) j ≡ Some x → ⊥
    go zero (suc zero) less at_i at_j = differ (same_Some p.0 x at_i ∙ sym (same_Some p.1 x at_j))
    go i (suc (suc j)) less at_i at_j = none-some x at_j
    go i zero less at_i at_j = absurd (omega arith)
    go (suc i) (suc zero) less at_i at_j = absurd (omega arith)
distinct_meant before p all differ first second M1 b = absurd cc
distinct_meant before p all differ first second M2 b = absurd cc
distinct_meant before p all differ first second M3 b = absurd cc
distinct_meant before p all differ first second M4 b = ⊎_elim (λ e. absurd cc) (λ e. absurd cc) b.0
distinct_meant before p all differ first second M5 b = none-some b.0 b.1
distinct_meant before p all differ first second M6 b = none-some b.0 b.1
distinct_meant before p all differ first second M10 b = untyped p _ b
distinct_meant before p all differ first second M11 b = untyped p _ b
distinct_meant before p all differ first second M12 b = untyped p _ b
distinct_meant before p all differ first second M13 b = untyped p _ b
distinct_meant before p all differ first second M14 b = unstated b.0
distinct_meant before p all differ first second M15 b = unstated b.0

pushed_active : (before : List Sentence) (p : Symbol × Symbol) (u : List ℕ)
    → IsActiveVariable before u → IsActiveVariable (before ++ distinct_sentence p ∷ []) u
pushed_active before p u (i, s, there, active, declares) = (
  i,
  s,
  get_kept before (distinct_sentence p ∷ []) i s there,
  active_stays before
      (distinct_sentence p) i (λ e. absurd cc) active,
  declares,
)

pub meant_added : (pairs : List (Symbol × Symbol)) (before : List Sentence) → AllMeant before
    → ((p : Symbol × Symbol) → Contains pairs p → (p.0 ≡ p.1 → ⊥) × IsActiveVariable before p.0
    × IsActiveVariable before p.1) → AllMeant (with_pairs before pairs)
meant_added [] before all each = subst AllMeant (sym (append-nil before)) all
meant_added (p ∷ pairs) before all each =
    let here = each p (0, omega arith, refl) in
    subst AllMeant (append_assoc before (distinct_sentence p ∷ []) (map distinct_sentence pairs))
    (meant_added pairs (before ++ distinct_sentence p ∷ [])
    (allmeant_push before (distinct_sentence p) all (distinct_meant before p all here.0 here.1
    here.2))
    (λ q c.
    let e = each q (suc c.0, omega (arith, c.1), c.2) in
    (e.0, pushed_active before p q.0 e.1, pushed_active before p q.1 e.2)))

-- what a proof lacks may be put before it
pub lacking_meant : (before : List Sentence) → AllMeant before
    → (Fits : List (List ℕ) → Type 0) (moves : List (Move (List ℕ)))
    (pairs : List (Symbol × Symbol))
    → ((p : Symbol × Symbol) → Contains pairs p → IsVariable before p.0 × IsVariable before p.1
    × (p.0 ≡ p.1 → ⊥) × AskDisjoint Fits (with_pairs before pairs) moves p.0 p.1)
    → AllMeant (with_pairs before pairs)
lacking_meant before all Fits moves pairs needed = meant_added pairs before all (λ p c.
    let n = needed p c in
    let active = asked_active before all Fits pairs moves p.0 p.1 n.0 n.1 n.3 in
    (n.2, active.0, active.1))
