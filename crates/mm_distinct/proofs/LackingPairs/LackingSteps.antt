-- The step by a label, by numbers and by names, where a `$d` for each of the missing pairs is put
-- behind the statements before the proof.
use Rattle.std.proofs.Common.{◌≡◌, ℕ, ◌+◌, ◌<◌, ◌≤◌, List, [], ◌∷◌, ◌++◌, length, take, drop}
use Rattle.std.proofs.Common.{slice_get, get_or, Contains, ◌⊎◌, inl, inr, ⊎_elim}
use Rattle.std.proofs.Common.{refl}
use Rattle.std.proofs.Common.{sym, ap, subst, ◌∙◌, arith, Bool, true, false, MatchBool}
use Rattle.std.proofs.lemmas.Option.{same_Some}
use Rattle.std.proofs.lemmas.List.{length-map, length-drop}
use Rattle.mm_base.specs.declared.statement.Kind.TheVariants.{Variables}
use Rattle.mm_base.proofs.Lists.{get_take, all_at, at_from_contains}
use Rattle.mm_frame.specs.Sentence.{Sentence, IsHypothesis, Declares}
use Rattle.mm_frame.specs.Active.{IsVariable}
use Rattle.mm_frame.specs.Frame.{IsDistinct}
use Rattle.mm_frame.specs.Rules.{AllMeant}
use Rattle.mm_frame.specs.Numbers.{symbols_of, IsNumberOf, AreNumbers}
use Rattle.mm_frame.specs.Pieces.{variables_of}
use Rattle.mm_frame.specs.Laws.{OneNumber}
use Rattle.mm_frame.specs.declared.signature.Signature.{Signature}
use Rattle.mm_frame.proofs.Rules.ObeyedRules.{allmeant_prefix, some_later}
use Rattle.mm_frame.proofs.Rules.DecidedStatements.{distinct_dec, variable_dec}
use Rattle.mm_frame.proofs.Frames.FrameLaws.{distinct_other}
use Rattle.mm_frame.proofs.Frames.VariableIndices.{variables_counted}
use Rattle.mm_step.specs.declared.fault.ProofRule.{ProofRule}
use Rattle.mm_step.specs.declared.fault.ProofRule.TheVariants.{P12, L1}
use Rattle.mm_step.specs.Substitution.{Symbol, instance_of}
use Rattle.mm_step.specs.Tree.{ShareNoVariable, AreDistinct, KeepsApart}
use Rattle.mm_step.specs.Moves.{name}
use Rattle.mm_step.specs.Proof.{MeetsHypotheses, Passed, IsWithin, BreaksStep, proof_rank}
use Rattle.mm_step.specs.Steps.{IsNumberedMove}
use Rattle.mm_step.specs.Stores.{all_said_by}
use Rattle.mm_step.specs.Plain.{label_ids}
use Rattle.mm_distinct.specs.Lacking.{with_pairs}
use Rattle.mm_step.specs.Mirror.CodeSteps.{MayBeUsed}
use Rattle.mm_step.specs.Mirror.CodeVerify.{name_at, names_at, all_names_at, value_of}
use Rattle.mm_step.specs.Mirror.CodeVerify.{pairs_in, AreStackEntries}
use Rattle.mm_step.specs.Mirror.CodeVerify.{IsSymbol}
use Rattle.mm_step.specs.Mirror.CodeVerify.{EachEntry, EachPairValues, IsRightCode}
use Rattle.mm_step.specs.Mirror.CodeVerify.{IsEqual, AreVariablesOf, Replaces}
use Rattle.mm_step.specs.Mirror.CodeRun.{StopsAt}
use Rattle.mm_step.specs.Mirror.CodeApply.{IsAppliedAssertion, IsEarlierSignature}
use Rattle.mm_step.specs.Mirror.CodeAsked.{IsMissingPair}
use Rattle.mm_distinct.specs.Mirror.CodeLacking.{AddsLacking, Cover, CarriesWith, StopsWith, StepsWith}
use Rattle.mm_distinct.specs.Mirror.CodeLacking.{IsLackingPair, AsksFor}
use Rattle.mm_step.proofs.ProofSteps.OneStep.{not_both_kinds, agree, Pushes}
use Rattle.mm_step.proofs.ProofSteps.PassedStep.{entries_are, pushed_stands, applied_stands}
use Rattle.mm_step.proofs.ProofSteps.PassedStep.{stands_passed}
use Rattle.mm_step.proofs.ProofSteps.Replacements.{replaced_by}
use Rattle.mm_step.proofs.ProofSteps.FirstAtStep.{below, EachPair}
use Rattle.mm_step.proofs.ByNumbers.NumberedSymbols.{as_many, typed_variables, replaces_by}
use Rattle.mm_step.proofs.ByNumbers.NumberedSymbols.{named_is}
use Rattle.mm_step.proofs.ByNumbers.NumberedSymbols.{number_of_name, pattern_says}
use Rattle.mm_step.proofs.ByNumbers.SharedVariables.{has_named, named_has, number_among, symbol_at}
use Rattle.mm_step.proofs.ByNumbers.SharedVariables.{value_symbols, share_turned, apart_turned}
use Rattle.mm_step.proofs.ByNumbers.SharedVariables.{distinct_share_none, variable_before}
use Rattle.mm_distinct.proofs.AskedByNumbers.ListedVariables.{named_variable}
use Rattle.mm_step.proofs.ByNumbers.StepByAssertion.{label_of, met, value_at, pair_found}
use Rattle.mm_step.proofs.ByNumbers.StepByAssertion.{each_pair}
use Rattle.mm_step.proofs.ByNumbers.StepByAssertion.{made_named, entries_drop, replaced_entries}
use Rattle.mm_step.proofs.ByNumbers.StepByAssertion.{called_of, pushed_entries}
use Rattle.mm_step.proofs.ByNumbers.NamedEntries.{named_push}
use Rattle.mm_distinct.proofs.LackingPairs.WithPairs.{active_added, there_added, variable_fall}
use Rattle.mm_distinct.proofs.LackingPairs.WithPairs.{distinct_added, distinct_of, meets_added}
use Rattle.mm_distinct.proofs.LackingPairs.WithPairs.{meets_fall, pair_back, breaks_fall, first_added}

-- a declared variable of all statements is one of those before
variable_there : (st : List Sentence) (index n : ℕ) → AllMeant st → IsSymbol st (take index st) n
    → IsVariable st (name_at st n) → IsVariable (take index st) (name_at st n)
variable_there st index n all symbol variable = elim (variable_dec (take index st) (name_at st n)) [
  | yes v ↦ v
  | no none ↦ absurd (variable_before st index n all symbol variable none)
]

-- a pair among the added ones, in one order or the other, is active
stated_apart : (before : List Sentence) (pairs : List (Symbol × Symbol)) (u v : Symbol)
    → (u ≡ v → ⊥) → Contains pairs (u, v) ⊎ Contains pairs (v, u)
    → IsDistinct (with_pairs before pairs) u v
stated_apart before pairs u v differ (inl c) = distinct_of before pairs (u, v) c differ
stated_apart before pairs u v differ (inr c) = distinct_other (with_pairs before pairs) v u
    (distinct_of before pairs (v, u) c (λ same. differ (sym same)))

-- ==== a rule besides P12 is broken, or a hypothesis is put on the stack

module _ (limit : ℕ) (st : List Sentence) (index id : ℕ) (stack : List (List ℕ))
    (lacking : List (ℕ × ℕ)) (entries : AreStackEntries st (take index st) stack) where
  pub stops_with : (rule : ProofRule) → (rule ≡ P12 → ⊥) → StopsAt limit st index id stack rule
      → StepsWith limit st index id lacking lacking stack stack false
  stops_with rule other stops = record {
    kept = λ p c. c;
    asked = λ p c. inl c;
    outcome = λ pairs cover label kept move. (
      rule,
      other,
      first_added (take index st) pairs (IsWithin limit) rule (all_names_at st stack) kept
          (name label) other
          (stops label kept move),
    );
    entries = entries;
  }

  pub pushes_with : (used expression : List ℕ) → AllMeant st → (u : MayBeUsed st index used id)
      → IsHypothesis u.s.kind → AreNumbers st expression u.s.symbols → length expression ≤ limit
      → StepsWith limit st index id lacking lacking stack (stack ++ expression ∷ []) true
  pushes_with used expression all u kind numbers within = record {
    kept = λ p c. c;
    asked = λ p c. inl c;
    outcome = λ pairs cover label moves kept move passed.
        let before : List Sentence = take index st in
        let names = all_names_at st stack in
        let is = named_is st expression u.s.symbols numbers in
        let size : length (names_at st expression) ≡ length expression =
        length-map expression (name_at st) in
        let fits : IsWithin limit (names_at st expression) = omega (arith, within, size) in
        let pushes : Pushes (with_pairs before pairs) names label names u.s.symbols = record {
          kept = refl;
          index = u.at;
          hypothesis = u.s;
          there = there_added before pairs u.at u.s (get_take st index u.at u.before
              ∙ u.numbered.there);
          active = active_added pairs before u.at (⊎_elim (λ h. h.1)
              (λ a. absurd (not_both_kinds u.s.kind kind a)) u.kind);
          named = label_of st id u.at u.s label u.numbered move;
          kind = kind;
          made = refl;
        } in
        let next = stands_passed (IsWithin limit) (with_pairs before pairs) moves names kept label
        names u.s.symbols passed
        (pushed_stands (IsWithin limit) (with_pairs before pairs) passed.trees names label
        passed.derived names u.s.symbols pushes
        (subst (IsWithin limit) is fits)) in
        subst (λ l. Passed (IsWithin limit) (with_pairs before pairs) (moves ++ name label ∷ []) l
        kept)
        (sym (named_push st stack expression ∙ ap (λ x. all_names_at st stack ++ x ∷ []) is)) next;
    entries = pushed_entries st index id used stack expression all u kind numbers entries;
  }

-- ==== an assertion is applied

module _ (limit : ℕ) (one : OneNumber) (st : List Sentence) (index id : ℕ) (signature : Signature)
    (is : IsEarlierSignature st index id signature) (all : AllMeant st) (stack : List (List ℕ)) (base : ℕ)
    (count : base + length signature.hypotheses.now ≡ length stack)
    (entries : AreStackEntries st (take index st) stack)
    (codes : EachEntry is.hypotheses.hypotheses (all_names_at st (drop base stack)) IsRightCode)
    (equal : EachEntry is.hypotheses.hypotheses (all_names_at st (drop base stack))
    (IsEqual (replaced_by is.hypotheses.hypotheses (all_names_at st (drop base stack)))))
    (share : EachPairValues (value_of (variables_of signature.hypotheses.now) (drop base stack))
    (pairs_in signature.pairs.now)
    (λ e f. ShareNoVariable (take index st) (names_at st e) (names_at st f)))
    (old new : List (ℕ × ℕ))
    (adds : AddsLacking st index (value_of (variables_of signature.hypotheses.now) (drop base stack))
    (pairs_in signature.pairs.now) old new) where
  called : IsAppliedAssertion st index id is.at (label_ids signature.hypotheses.now)
      is.hypotheses.hypotheses
  called = called_of st index id signature is

  its : called.s ≡ is.s
  its = same_Some called.s is.s (sym called.numbered.there ∙ is.numbered.there)

  paired : length (drop base stack) ≡ length is.hypotheses.hypotheses
  paired = omega (
    arith,
    length-drop base stack,
    count,
    as_many st signature.hypotheses.now
        is.hypotheses.hypotheses is.hypotheses.numbered,
  )

  typed : AreVariablesOf st (variables_of signature.hypotheses.now) is.hypotheses.hypotheses
  typed = typed_variables st signature.hypotheses.now is.hypotheses.hypotheses is.typed
      is.hypotheses.numbered

  replaces : Replaces st (replaced_by is.hypotheses.hypotheses (all_names_at st (drop base stack)))
      (variables_of signature.hypotheses.now) (drop base stack)
  replaces = replaces_by one st (variables_of signature.hypotheses.now) is.hypotheses.hypotheses
      (drop base stack) typed

  abbrev meets : (label : List ℕ) → IsNumberedMove st (name id) (name label)
      → MeetsHypotheses (take index st) (all_names_at st stack) label
  meets label move =
      met st index id is.at (label_ids signature.hypotheses.now) is.hypotheses.hypotheses label stack
      base all called move paired

  -- with a `$d` for each missing pair, what replaces the members of each pair stays apart
  apart_values : (pairs : List (Symbol × Symbol)) → Cover st new pairs
      → EachPairValues (value_of (variables_of signature.hypotheses.now) (drop base stack))
      (pairs_in signature.pairs.now)
      (λ e f. AreDistinct (with_pairs (take index st) pairs) (names_at st e) (names_at st f))
  apart_values pairs cover k p there e f at_x at_y u v var_u var_v in_e in_f =
      let before : List Sentence = take index st in
      let below = entries_drop st before base stack entries in
      let i = has_named st e u in_e in
      let j = has_named st f v in_f in
      let m = get_or e i.0 0 in
      let n = get_or f j.0 0 in
      let se = value_symbols st before (variables_of signature.hypotheses.now) (drop base stack) p.0 e
      below at_x in
      let sf = value_symbols st before (variables_of signature.hypotheses.now) (drop base stack) p.1 f
      below at_y in
      let number_u : IsNumberOf st u m = subst (λ x. IsNumberOf st x m) i.2
      (number_of_name st m (symbol_at st before e i.0 se i.1).below) in
      let number_v : IsNumberOf st v n = subst (λ x. IsNumberOf st x n) j.2
      (number_of_name st n (symbol_at st before f j.0 sf j.1).below) in
      let is_u = variable_fall before pairs u var_u in
      let is_v = variable_fall before pairs v var_v in
      let differ : u ≡ v → ⊥ = λ same. share k p there e f at_x at_y u is_u in_e
      (subst (Contains (names_at st f)) (sym same) in_f) in
      elim (distinct_dec before u v) [
        | yes d ↦ distinct_added before pairs u v d
        | no inactive ↦
            let missing : IsMissingPair st index m n = record {
              first = (u, number_u, some_later st index (Declares Variables u) is_u);
              second = (v, number_v, some_later st index (Declares Variables v) is_v);
              differ = λ same. differ
                  (same_Some u v (sym number_u ∙ ap (slice_get (symbols_of st)) same ∙ number_v));
              inactive =
                  λ a b p q d. inactive (subst (λ c. IsDistinct before c v)
                  (same_Some a u (sym p ∙ number_u))
                  (subst (IsDistinct before a) (same_Some b v (sym q ∙ number_v)) d));
            } in
            stated_apart before pairs u v differ (⊎_elim
            (λ c. rw (i.2, j.2) at (cover (m, n) c))
            (λ c. ⊎_elim inr inl (rw (j.2, i.2) at (cover (n, m) c)))
            (adds.each k p there e f at_x at_y m n missing (number_among e i.0 i.1)
            (number_among f j.0 j.1)))
      ]

  module _ (label : List ℕ) (move : IsNumberedMove st (name id) (name label)) where
    shared : EachPair (take index st) (all_names_at st stack) label (meets label move)
        (ShareNoVariable (take index st))
    shared = each_pair one st index id is.at (label_ids signature.hypotheses.now)
        is.hypotheses.hypotheses label stack base
        (variables_of signature.hypotheses.now) (pairs_in signature.pairs.now)
        (ShareNoVariable (take index st))
        (share_turned (take index st)) all called move paired typed is.pairs share

    -- no rule that is judged before P12 is broken
    unbroken : (other : ProofRule) → proof_rank other < proof_rank P12
        → BreaksStep (IsWithin limit) other (take index st) (all_names_at st stack) label → ⊥
    unbroken other less b =
        below (IsWithin limit) (take index st) (all_names_at st stack) label (meets label move)
        (allmeant_prefix st index all)
        P12 (omega arith) (λ l. codes) (λ l. equal) (λ l. shared) other less b

  module _ (pairs : List (Symbol × Symbol)) (cover : Cover st new pairs) (label : List ℕ)
      (move : IsNumberedMove st (name id) (name label)) where
    apart : EachPair (take index st) (all_names_at st stack) label (meets label move)
        (AreDistinct (with_pairs (take index st) pairs))
    apart = each_pair one st index id is.at (label_ids signature.hypotheses.now)
        is.hypotheses.hypotheses label stack base
        (variables_of signature.hypotheses.now) (pairs_in signature.pairs.now)
        (AreDistinct (with_pairs (take index st) pairs))
        (apart_turned (with_pairs (take index st) pairs)) all called move paired typed is.pairs
        (apart_values pairs cover)

    keeps : KeepsApart (with_pairs (take index st) pairs) (meets label move).index
        (meets label move).assertion
        (meets label move).σ
    keeps x y e f pair at_x at_y =
        let near =
        apart x y e f (pair_back (take index st) pairs (all_names_at st stack) label
        (meets label move) x y pair) at_x at_y in
        (distinct_share_none (with_pairs (take index st) pairs) e f near, near)

    -- no rule before the limit is broken
    within_limit : (other : ProofRule) → proof_rank other < proof_rank L1
        → BreaksStep (IsWithin limit) other (with_pairs (take index st) pairs)
        (all_names_at st stack) label → ⊥
    within_limit P12 less b =
        let before : List Sentence = take index st in
        let n = meets_fall before pairs (all_names_at st stack) label b.0 in
        let a = agree before (all_names_at st stack) label (allmeant_prefix st index all)
        (meets label move) n in
        let pair =
        rw (← a.index, ← a.assertion) at (pair_back before pairs (all_names_at st stack) label n b.1
        b.2 b.5) in
        b.8 (apart b.1 b.2 b.3 b.4 pair (a.replacement b.1 ∙ b.6) (a.replacement b.2 ∙ b.7))
    within_limit L1 less b = absurd (omega arith)
    within_limit other less b =
        unbroken label move other (omega (arith, less))
        (breaks_fall (take index st) pairs (all_names_at st stack) label (IsWithin limit) other b)

  -- what the assertion says of the entries
  said : names_at st (all_said_by (drop base stack) signature.conclusion.now)
      ≡ instance_of (replaced_by is.hypotheses.hypotheses (all_names_at st (drop base stack)))
      called.s.symbols
  said =
      let pattern = is.concluded.0 in
      let size : length (variables_of signature.hypotheses.now) ≡ length (drop base stack) =
      omega (arith, length-drop base stack, count, variables_counted signature.hypotheses.now) in
      let numbers = subst (λ (s : Sentence). AreNumbers st pattern s.symbols) (sym its)
      is.concluded.1 in
      ap (names_at st) (pattern_says (variables_of signature.hypotheses.now) (drop base stack) pattern
      signature.conclusion.now size is.concluded.2)
      ∙ made_named one st is.hypotheses.hypotheses (variables_of signature.hypotheses.now)
      (drop base stack) pattern called.s.symbols typed numbers

  -- it is put on the stack
  carries_with : length (all_said_by (drop base stack) signature.conclusion.now) ≤ limit
      → CarriesWith limit st index id new stack (take base stack ++ all_said_by (drop base stack)
      signature.conclusion.now ∷ [])
  carries_with within pairs cover label moves kept move passed =
      let before : List Sentence = take index st in
      let names = all_names_at st stack in
      let m = meets label move in
      let whole = all_said_by (drop base stack) signature.conclusion.now in
      let size : length (names_at st whole) ≡ length whole = length-map whole (name_at st) in
      let fits : IsWithin limit (names_at st whole) = omega (arith, within, size) in
      let e = instance_of (replaced_by is.hypotheses.hypotheses (all_names_at st (drop base stack)))
      called.s.symbols in
      let stands = applied_stands (IsWithin limit) (with_pairs before pairs) passed.trees names
      label passed.derived
      (meets_added before pairs names label m) (entries_are before names label
      (allmeant_prefix st index all) m codes equal)
      (keeps pairs cover label move) e refl (subst (IsWithin limit) said fits) in
      let next = stands_passed (IsWithin limit) (with_pairs before pairs) moves names kept label
      (all_names_at st (take base stack)) e passed stands in
      subst (λ l. Passed (IsWithin limit) (with_pairs before pairs) (moves ++ name label ∷ []) l
      kept)
      (sym (named_push st (take base stack) whole
      ∙ ap (λ x. all_names_at st (take base stack) ++ x ∷ []) said)) next

  -- it is over the limit
  over_with : limit < length (all_said_by (drop base stack) signature.conclusion.now)
      → StopsWith limit st index id new stack
  over_with over pairs cover label kept move =
      let whole = all_said_by (drop base stack) signature.conclusion.now in
      let size : length (names_at st whole) ≡ length whole = length-map whole (name_at st) in (
        L1,
        λ e. absurd cc,
        record {
          broken = inr (
            meets_added (take index st) pairs (all_names_at st stack) label (meets label move),
            λ within. let w = subst (IsWithin limit) (sym said) within in
                omega (arith, w, size, over),
          );
          first = within_limit pairs cover label move;
        },
      )

  asked : (p : ℕ × ℕ) → Contains new p
      → Contains old p ⊎ (IsLackingPair st index p × AsksFor limit st index id stack p)
  asked p has = elim (adds.only p has) [
    | inl c ↦ inl c
    | inr (missing, (k, q, there, (e, f, at_x, at_y, (in_e, in_f)))) ↦
        let before : List Sentence = take index st in
        let below = entries_drop st before base stack entries in
        let vs = variables_of signature.hypotheses.now in
        let es = drop base stack in
        let se = value_symbols st before vs es q.0 e below at_x in
        let sf = value_symbols st before vs es q.1 f below at_y in
        let i = at_from_contains e p.0 in_e in
        let j = at_from_contains f p.1 in_f in
        let found = pair_found st index id is.at (label_ids signature.hypotheses.now)
        is.hypotheses.hypotheses (pairs_in signature.pairs.now)
        called is.pairs k q there in
        let σ = replaced_by is.hypotheses.hypotheses (all_names_at st es) in
        inr (
          record {
            missing = missing;
            first = variable_there st index p.0 all (all_at (IsSymbol st before) e i.0 p.0 se i.1)
                (named_variable st p.0 missing.first);
            second = variable_there st index p.1 all (all_at (IsSymbol st before) f j.0 p.1 sf j.1)
                (named_variable st p.1 missing.second);
          },
          λ label move. record {
            unbroken = unbroken label move;
            asked = (
              meets label move,
              found.0,
              found.1,
              names_at st e,
              names_at st f,
              found.4,
              value_at st σ vs es found.0 q.0 e replaces found.2 at_x,
              value_at st σ vs es found.1 q.1 f replaces found.3 at_y,
              (named_has st e p.0 in_e, named_has st f p.1 in_f),
            );
          },
        )
  ]

  -- the step by the assertion, by what the store says
  pub concludes_with : (made : Bool) (left : List (List ℕ))
      → (let whole = all_said_by (drop base stack) signature.conclusion.now in MatchBool made
      ((length whole ≤ limit) × (left ≡ take base stack ++ whole ∷ []))
      ((limit < length whole) × (left ≡ stack)))
      → StepsWith limit st index id old new stack left made
  concludes_with true left (within, is_left) = record {
    kept = adds.kept;
    asked = asked;
    outcome = subst (λ l. CarriesWith limit st index id new stack l) (sym is_left)
        (carries_with within);
    entries = subst (AreStackEntries st (take index st)) (sym is_left)
        (replaced_entries st index is.at is.s stack base (variables_of signature.hypotheses.now)
        is.concluded.0 _ all
        is.numbered.there is.before (inr (inr (inr is.kind))) is.concluded.1
        (pattern_says (variables_of signature.hypotheses.now) (drop base stack) is.concluded.0
        signature.conclusion.now
        (omega (arith, length-drop base stack, count, variables_counted signature.hypotheses.now))
        is.concluded.2) entries);
  }
  concludes_with false left (over, is_left) = record {
    kept = adds.kept;
    asked = asked;
    outcome = over_with over;
    entries = subst (AreStackEntries st (take index st)) (sym is_left) entries;
  }
