-- The step by an assertion, by numbers and by names: what it breaks, what it makes, over how many
-- trees.
use Rattle.std.proofs.Common.{◌≡◌, ℕ, suc, ◌<◌, ◌≤◌, List, [], ◌∷◌, ◌++◌, length, map, take, drop}
use Rattle.std.proofs.Common.{slice_get, Contains, Option, Some, None, option_map, unwrap_or, ◌⊎◌}
use Rattle.std.proofs.Common.{inl, inr, ⊎_elim, refl, sym, ap, subst, ◌∙◌, arith}
use Rattle.std.specs.List.{AllByRecursion}
use Rattle.std.proofs.lemmas.Option.{same_Some, slice_get_within, get_or_from_slice_get}
use Rattle.std.proofs.lemmas.Option.{slice_get-get_or}
use Rattle.std.proofs.lemmas.List.{map-append, length-map, take-append-drop, take-take}
use Rattle.mm_frame.specs.declared.rule.MeaningRule.TheVariants.{M7}
use Rattle.mm_frame.specs.Sentence.{Sentence, IsAssertion, IsHypothesis, IsUse, IsLabelled}
use Rattle.mm_frame.specs.Active.{IsConstant, IsVariable}
use Rattle.mm_frame.specs.Frame.{AreMandatory, IsMandatoryPair}
use Rattle.mm_frame.specs.Rules.{AllMeant}
use Rattle.mm_frame.specs.Numbers.{symbols_of, IsNumbered, IsNumberOf, AreNumbers}
use Rattle.mm_frame.specs.FrameIndex.{ArePairs}
use Rattle.mm_frame.specs.Pieces.{variables_of}
use Rattle.mm_frame.specs.declared.piece.Piece.{Piece}
use Rattle.mm_frame.specs.declared.signature.Signature.{Signature}
use Rattle.mm_frame.specs.Taken.{kind_behind}
use Rattle.mm_frame.specs.declared.number.LabelKind.{LabelKind}
use Rattle.mm_frame.specs.Laws.{OneNumber}
use Rattle.mm_frame.proofs.Rules.ObeyedRules.{meant_at, allmeant_prefix}
use Rattle.mm_frame.proofs.Names.LabelNumbers.{numbered_get}
use Rattle.mm_step.specs.declared.fault.ProofRule.TheVariants.{P8, P9, P10, P11, P12, L1}
use Rattle.mm_step.specs.Substitution.{instance_of}
use Rattle.mm_step.specs.Tree.{Names, ShareNoVariable, AreDistinct}
use Rattle.mm_step.specs.Moves.{name}
use Rattle.mm_step.specs.Proof.{MeetsHypotheses, SomePair, Passed, IsWithin}
use Rattle.mm_step.specs.Steps.{IsNumberedMove}
use Rattle.mm_step.specs.Stores.{all_said_by}
use Rattle.mm_step.specs.Mirror.CodeVerify.{name_at, names_at, all_names_at, value_of, replaced_in}
use Rattle.mm_step.specs.Mirror.CodeVerify.{pairs_in, IsSymbol, AreDeclaredSymbols}
use Rattle.mm_step.specs.Mirror.CodeVerify.{AreStackEntries, AreBelow, IsRightCode, IsWrongCode}
use Rattle.mm_step.specs.Mirror.CodeVerify.{IsEqual, IsUnequal, EachEntry, EachPairValues}
use Rattle.mm_step.specs.Mirror.CodeVerify.{SomePairValues, Replaces, AreVariablesOf, IsVariableOf}
use Rattle.mm_step.specs.Plain.{label_ids}
use Rattle.mm_step.specs.Mirror.CodeSteps.{MayBeUsed}
use Rattle.mm_step.specs.Mirror.CodeRun.{CarriesOn, StopsAt}
use Rattle.mm_step.specs.Mirror.CodeApply.{IsAppliedAssertion, IsMatched, IsReady, IsEarlierSignature}
use Rattle.mm_base.proofs.Lists.{get_take, get_from_take, all_weaker, all_append, all_prefix}
use Rattle.mm_base.proofs.Lists.{all_back, all_push, zip_length}
use Rattle.mm_step.proofs.ProofSteps.OneStep.{StepTo, not_both_kinds}
use Rattle.mm_step.proofs.ProofSteps.Replacements.{replaced_by, meets_of}
use Rattle.mm_step.proofs.ByNumbers.NumberedSymbols.{replaces_by, replaced_named, name_is}
use Rattle.mm_step.proofs.ByNumbers.NumberedSymbols.{named_is, below_is, typed_variables}
use Rattle.mm_step.proofs.ByNumbers.NumberedSymbols.{pattern_says, as_many}
use Rattle.mm_step.proofs.ByNumbers.SharedVariables.{value_symbols, symbols_below, share_turned}
use Rattle.mm_step.proofs.ByNumbers.SharedVariables.{distinct_share_none, apart_turned}
use Rattle.mm_step.proofs.ProofSteps.FirstAtStep.{below_P8, step_of_hypothesis, EachPair, below}
use Rattle.mm_step.proofs.ProofSteps.FirstAtStep.{first_L1}
use Rattle.mm_step.proofs.ProofSteps.PassedStep.{passed_name}
use Rattle.mm_step.proofs.ByNumbers.NamedEntries.{named_push}
use Rattle.mm_frame.specs.declared.number.LabelKind.TheVariants as kinds

-- ==== the step by an assertion, by numbers and by names: what it breaks, and what it makes

-- ---- names

-- the label of a move is that of the statement with its number
pub label_of : (st : List Sentence) (id at : ℕ) (s : Sentence) (label : List ℕ) → IsNumbered st id at s → IsNumberedMove st (name id) (name label) → IsLabelled label s
label_of st id at s label n move =
    let e : name label ≡ name move.1 = move.4 in
    cc (numbered_get st id at s n, move.2, move.3)

pub names_of : (st : List Sentence) (index id at : ℕ) (ids : List ℕ) (hs : List Sentence) (label : List ℕ) → (c : IsAppliedAssertion st index id at ids hs)
    → IsNumberedMove st (name id) (name label) → Names (take index st) label at c.s hs
names_of st index id at ids hs label c move =
    record {
      there = get_take st index at c.before ∙ c.numbered.there;
      named = label_of st id at c.s label c.numbered move;
      kind = c.kind;
      mandatory = subst (λ (l : List Sentence). AreMandatory l c.s hs) (sym (take-take at index st (omega (arith, c.before)))) c.mandatory;
    }

-- what the step meets
abbrev pub met : (st : List Sentence) (index id at : ℕ) (ids : List ℕ) (hs : List Sentence)
    (label : List ℕ) (stack : List (List ℕ)) (base : ℕ) → AllMeant st
    → IsAppliedAssertion st index id at ids hs → IsNumberedMove st (name id) (name label) → length (drop base stack) ≡ length hs → MeetsHypotheses (take index st) (all_names_at st stack) label
met st index id at ids hs label stack base all c move paired =
    meets_of (take index st) (all_names_at st stack) label at c.s hs (all_names_at st (take base stack)) (all_names_at st (drop base stack)) (allmeant_prefix st index all)
    (names_of st index id at ids hs label c move)
    (ap (all_names_at st) (sym (take-append-drop base stack))
    ∙ map-append (names_at st) (take base stack) (drop base stack))
    (length-map (drop base stack) (λ (e : List ℕ). map (name_at st) e) ∙ paired)

-- ---- pairs

-- what replaces the names of a pair's numbers
pub value_at : (st : List Sentence) (σ : List ℕ → Option (List (List ℕ))) (vs : List (Option ℕ))
    (es : List (List ℕ)) (x : List ℕ) (n : ℕ) (e : List ℕ) → Replaces st σ vs es
    → IsNumberOf st x n → value_of vs es n ≡ Some e → σ x ≡ Some (names_at st e)
value_at st σ vs es x n e r number value =
    ap σ (sym (name_is st n x number)) ∙ r n (slice_get_within (symbols_of st) n x number) ∙ ap (option_map (names_at st)) value

-- ---- the rules

module _ (limit : ℕ) (st : List Sentence) (index id at : ℕ) (ids : List ℕ) (hs : List Sentence)
    (stack : List (List ℕ)) where
  pub stops_P8 : IsAppliedAssertion st index id at ids hs → length stack < length hs
      → StopsAt limit st index id stack P8
  stops_P8 c short label kept move =
      let names = names_of st index id at ids hs label c move in
      let many = length-map stack (λ (e : List ℕ). map (name_at st) e) in
      record {
        broken = (at, c.s, hs, names, omega (arith, short, many));
        first = below_P8 (IsWithin limit) (take index st) (all_names_at st stack) label;
      }

  module _ (base : ℕ) (all : AllMeant st) (c : IsAppliedAssertion st index id at ids hs)
      (paired : length (drop base stack) ≡ length hs) where
    pub stops_P9 : SomePair hs (all_names_at st (drop base stack)) IsWrongCode
        → StopsAt limit st index id stack P9
    stops_P9 pair label kept move =
        let m = met st index id at ids hs label stack base all c move paired in
        let prefix = allmeant_prefix st index all in
        record {
          broken = (m, pair);
          first = below (IsWithin limit) _ _ _ m prefix P9 (omega arith)
              (λ l. absurd (omega arith)) (λ l. absurd (omega arith)) (λ l. absurd (omega arith));
        }

    pub stops_P10 : EachEntry hs (all_names_at st (drop base stack)) IsRightCode
        → SomePair hs (all_names_at st (drop base stack)) (IsUnequal (replaced_by hs (all_names_at st (drop base stack))))
        → StopsAt limit st index id stack P10
    stops_P10 codes pair label kept move =
        let m = met st index id at ids hs label stack base all c move paired in
        let prefix = allmeant_prefix st index all in
        record {
          broken = (m, pair);
          first = below (IsWithin limit) _ _ _ m prefix P10 (omega arith)
              (λ l. codes) (λ l. absurd (omega arith)) (λ l. absurd (omega arith));
        }

-- the pair of names behind a pair of numbers, with what replaces it
pub pair_found : (st : List Sentence) (index id at : ℕ) (ids : List ℕ) (hs : List Sentence)
    (pairs : List (ℕ × ℕ)) → (c : IsAppliedAssertion st index id at ids hs)
    → ArePairs (record { statements = st; index = at }) pairs → (k : ℕ) (p : ℕ × ℕ) → slice_get pairs k ≡ Some p
    → (x : List ℕ) × (y : List ℕ) × IsNumberOf st x p.0 × IsNumberOf st y p.1 × IsMandatoryPair (take at (take index st)) c.s x y
pair_found st index id at ids hs pairs c mand k p there =
    let m = mand.only p (k, slice_get_within pairs k p there, get_or_from_slice_get pairs k p p there) in
    let same : mand.assertion ≡ c.s = same_Some mand.assertion c.s (sym mand.there ∙ c.numbered.there) in
    let prefix : IsMandatoryPair (take at (take index st)) mand.assertion m.0 m.1 =
    subst (λ (l : List Sentence). IsMandatoryPair l mand.assertion m.0 m.1) (sym (take-take at index st (omega (arith, c.before)))) m.4 in
    (m.0, m.1, m.2, m.3, subst (λ (s : Sentence). IsMandatoryPair (take at (take index st)) s m.0 m.1) same prefix)

-- what replaces a name is what replaces its number
value_back : (st : List Sentence) (σ : List ℕ → Option (List (List ℕ))) (vs : List (Option ℕ)) (es : List (List ℕ)) (x : List ℕ) (n : ℕ) (e : List (List ℕ)) → Replaces st σ vs es
    → IsNumberOf st x n → σ x ≡ Some e → (l : List ℕ) × (value_of vs es n ≡ Some l) × (names_at st l ≡ e)
value_back st σ vs es x n e r number is = go (value_of vs es n) refl
  where
    mapped : option_map (names_at st) (value_of vs es n) ≡ Some e
    mapped = sym (r n (slice_get_within (symbols_of st) n x number)) ∙ ap σ (name_is st n x number) ∙ is

    go : (o : Option (List ℕ)) → value_of vs es n ≡ o → (l : List ℕ) × (value_of vs es n ≡ Some l) × (names_at st l ≡ e)
    go None p = absurd (let q : None ≡ Some e = sym (ap (option_map (names_at st)) p) ∙ mapped in cc)
    go (Some l) p = (l, p, same_Some (names_at st l) e (sym (ap (option_map (names_at st)) p) ∙ mapped))

pub each_pair : OneNumber → (st : List Sentence) (index id at : ℕ) (ids : List ℕ)
    (hs : List Sentence) (label : List ℕ) (stack : List (List ℕ)) (base : ℕ) (vs : List (Option ℕ))
    (pairs : List (ℕ × ℕ))
    (P : List (List ℕ) → List (List ℕ) → Type 0) → ((e f : List (List ℕ)) → P e f → P f e) → (all : AllMeant st) → (c : IsAppliedAssertion st index id at ids hs) → (move : IsNumberedMove st (name id) (name label))
    → (paired : length (drop base stack) ≡ length hs) → AreVariablesOf st vs hs → ArePairs (record { statements = st; index = at }) pairs
    → EachPairValues (value_of vs (drop base stack)) pairs (λ e f. P (names_at st e) (names_at st f))
    → EachPair (take index st) (all_names_at st stack) label (met st index id at ids hs label stack base all c move paired) P
each_pair one st index id at ids hs label stack base vs pairs P turned all c move paired typed mand each x y e f pair at_x at_y =
    let r = replaces_by one st vs hs (drop base stack) typed in
    let same : c.s ≡ mand.assertion = same_Some c.s mand.assertion (sym c.numbered.there ∙ mand.there) in
    let prefix : IsMandatoryPair (take at st) c.s x y =
    subst (λ (l : List Sentence). IsMandatoryPair l c.s x y) (take-take at index st (omega (arith, c.before))) pair in
    let m = mand.each x y (subst (λ (s : Sentence). IsMandatoryPair (take at st) s x y) same prefix) in
    let a = value_back st (replaced_by hs (all_names_at st (drop base stack))) vs (drop base stack) x m.0.0 e r m.1 at_x in
    let b = value_back st (replaced_by hs (all_names_at st (drop base stack))) vs (drop base stack) y m.0.1 f r m.2 at_y in
    let so : P (names_at st a.0) (names_at st b.0) = ⊎_elim
    (λ h. each h.0 m.0 (slice_get-get_or pairs h.0 m.0 h.1 ∙ ap Some h.2) a.0 b.0 a.1 b.1)
    (λ h. turned (names_at st b.0) (names_at st a.0) (each h.0 (m.0.1, m.0.0) (slice_get-get_or pairs h.0 (m.0.1, m.0.0) h.1 ∙ ap Some h.2) b.0 a.0 b.1 a.1)) m.3 in
    subst (λ l. P l f) a.2 (subst (λ l. P (names_at st a.0) l) b.2 so)

module _ (limit : ℕ) (one : OneNumber) (st : List Sentence) (index id at : ℕ) (ids : List ℕ)
    (hs : List Sentence) (stack : List (List ℕ)) (base : ℕ) (vs : List (Option ℕ))
    (pairs : List (ℕ × ℕ)) (all : AllMeant st) (c : IsAppliedAssertion st index id at ids hs)
    (paired : length (drop base stack) ≡ length hs) (typed : AreVariablesOf st vs hs)
    (mand : ArePairs (record { statements = st; index = at }) pairs)
    (codes : EachEntry hs (all_names_at st (drop base stack)) IsRightCode) where
  pub stops_P11 :
      EachEntry hs (all_names_at st (drop base stack)) (IsEqual (replaced_by hs (all_names_at st (drop base stack))))
      → SomePairValues (value_of vs (drop base stack)) pairs (λ e f. ¬ (ShareNoVariable (take index st) (names_at st e) (names_at st f)))
      → StopsAt limit st index id stack P11
  stops_P11 equal found label kept move =
      let m = met st index id at ids hs label stack base all c move paired in
      let r = replaces_by one st vs hs (drop base stack) typed in
      let σ = replaced_by hs (all_names_at st (drop base stack)) in
      let p = pair_found st index id at ids hs pairs c mand found.0 found.1 found.2 in
      let at_x = value_at st σ vs (drop base stack) p.0 found.1.0 found.3.0 r p.2 found.3.2 in
      let at_y = value_at st σ vs (drop base stack) p.1 found.1.1 found.3.1 r p.3 found.3.3 in
      record {
        broken = (m, p.0, p.1, _, _, p.4, at_x, at_y, found.3.4);
        first = below (IsWithin limit) _ _ _ m (allmeant_prefix st index all) P11 (omega arith)
            (λ l. codes) (λ l. equal) (λ l. absurd (omega arith));
      }

  pub stops_P12 :
      EachEntry hs (all_names_at st (drop base stack)) (IsEqual (replaced_by hs (all_names_at st (drop base stack))))
      → EachPairValues (value_of vs (drop base stack)) pairs (λ e f. ShareNoVariable (take index st) (names_at st e) (names_at st f))
      → SomePairValues (value_of vs (drop base stack)) pairs (λ e f. ¬ (AreDistinct (take index st) (names_at st e) (names_at st f)))
      → StopsAt limit st index id stack P12
  stops_P12 equal share found label kept move =
      let m = met st index id at ids hs label stack base all c move paired in
      let apart = each_pair one st index id at ids hs label stack base vs pairs _
      (share_turned (take index st)) all c move paired typed mand share in
      let r = replaces_by one st vs hs (drop base stack) typed in
      let σ = replaced_by hs (all_names_at st (drop base stack)) in
      let p = pair_found st index id at ids hs pairs c mand found.0 found.1 found.2 in
      let at_x = value_at st σ vs (drop base stack) p.0 found.1.0 found.3.0 r p.2 found.3.2 in
      let at_y = value_at st σ vs (drop base stack) p.1 found.1.1 found.3.1 r p.3 found.3.3 in
      record {
        broken = (m, p.0, p.1, _, _, p.4, at_x, at_y, found.3.4);
        first = below (IsWithin limit) _ _ _ m (allmeant_prefix st index all) P12 (omega arith)
            (λ l. codes) (λ l. equal) (λ l. apart);
      }

-- ---- what the step makes

-- what is made, by names
pub made_named : OneNumber → (st : List Sentence) (hs : List Sentence) (vs : List (Option ℕ))
    (es : List (List ℕ)) (pattern : List ℕ) (symbols : List (List ℕ)) → AreVariablesOf st vs hs
    → AreNumbers st pattern symbols → names_at st (replaced_in (value_of vs es) pattern) ≡ instance_of (replaced_by hs (all_names_at st es)) symbols
made_named one st hs vs es pattern symbols typed numbers =
    replaced_named st (replaced_by hs (all_names_at st es)) vs es pattern (replaces_by one st vs hs es typed) (below_is st pattern symbols numbers)
    ∙ ap (instance_of (replaced_by hs (all_names_at st es))) (named_is st pattern symbols numbers)

step_to : OneNumber → (st : List Sentence) (index id at : ℕ) (label : List ℕ) (stack : List (List ℕ)) (base : ℕ) (vs : List (Option ℕ)) (conclusion : List Piece) → AllMeant st
    → (ready : IsReady st index id at vs (drop base stack) conclusion) → length (drop base stack) ≡ length vs → IsNumberedMove st (name id) (name label)
    → StepTo (take index st) (all_names_at st stack) label (all_names_at st (take base stack)) (instance_of (replaced_by ready.hs (all_names_at st (drop base stack))) ready.called.s.symbols)
step_to one st index id at label stack base vs conclusion all ready as_many move =
    let paired = as_many ∙ zip_length (IsVariableOf st) vs ready.hs ready.typed in
    let r = replaces_by one st vs ready.hs (drop base stack) ready.typed in
    let apart = each_pair one st index id at ready.ids ready.hs label stack base vs ready.pairs (AreDistinct (take index st)) (apart_turned (take index st)) all ready.called move paired ready.typed ready.mandatory ready.matched.apart in
    inr (record {
      meets = met st index id at ready.ids ready.hs label stack base all ready.called move paired;
      kept = refl;
      typed = ready.matched.codes;
      equal = ready.matched.equal (replaced_by ready.hs (all_names_at st (drop base stack))) r;
      apart = λ x y e f pair at_x at_y.
          let near = apart x y e f pair at_x at_y in
          (distinct_share_none (take index st) e f near, near);
      made = refl;
    })

-- what the pattern of the assertion says is what is made
made_is : (st : List Sentence) (index id at : ℕ) (vs : List (Option ℕ)) (es : List (List ℕ)) (conclusion : List Piece) → length es ≡ length vs → (ready : IsReady st index id at vs es conclusion)
    → all_said_by es conclusion ≡ replaced_in (value_of vs es) ready.concluded.0
made_is st index id at vs es conclusion size ready = pattern_says vs es ready.concluded.0 conclusion (sym size) ready.concluded.2

pub stops_L1 : (limit : ℕ) → OneNumber → (st : List Sentence) (index id at : ℕ) (stack : List (List ℕ)) (base : ℕ) (vs : List (Option ℕ)) (conclusion : List Piece) → AllMeant st
    → IsReady st index id at vs (drop base stack) conclusion → length (drop base stack) ≡ length vs
    → limit < length (all_said_by (drop base stack) conclusion) → StopsAt limit st index id stack L1
stops_L1 limit one st index id at stack base vs conclusion all ready as_many over label kept move =
    let pattern = ready.concluded.0 in
    let made = made_named one st ready.hs vs (drop base stack) pattern ready.called.s.symbols ready.typed ready.concluded.1 in
    let size : length (names_at st (replaced_in (value_of vs (drop base stack)) pattern)) ≡ length (replaced_in (value_of vs (drop base stack)) pattern) = length-map _ (name_at st) in
    let said = ap length (made_is st index id at vs (drop base stack) conclusion as_many ready) in
    first_L1 (IsWithin limit) (take index st) (all_names_at st stack) kept label (all_names_at st (take base stack)) _ (allmeant_prefix st index all)
    (λ within. let w = subst (IsWithin limit) (sym made) within in omega (arith, w, size, over, said)) (step_to one st index id at label stack base vs conclusion all ready as_many move)

pub carries : (limit : ℕ) → OneNumber → (st : List Sentence) (index id at : ℕ) (stack : List (List ℕ)) (base : ℕ) (vs : List (Option ℕ)) (conclusion : List Piece) (made : List ℕ) → AllMeant st
    → IsReady st index id at vs (drop base stack) conclusion → length (drop base stack) ≡ length vs
    → made ≡ all_said_by (drop base stack) conclusion → length made ≤ limit → CarriesOn limit st index id stack (take base stack ++ made ∷ [])
carries limit one st index id at stack base vs conclusion made all ready as_many is within label moves kept move passed =
    let e = instance_of (replaced_by ready.hs (all_names_at st (drop base stack))) ready.called.s.symbols in
    let whole : names_at st made ≡ e = ap (names_at st) (is ∙ made_is st index id at vs (drop base stack) conclusion as_many ready)
    ∙ made_named one st ready.hs vs (drop base stack) ready.concluded.0 ready.called.s.symbols ready.typed ready.concluded.1 in
    let size : length (names_at st made) ≡ length made = length-map made (name_at st) in
    let fits : IsWithin limit (names_at st made) = omega (arith, within, size) in
    let next = passed_name (IsWithin limit) (take index st) moves (all_names_at st stack) kept label (all_names_at st (take base stack)) e (allmeant_prefix st index all) passed
    (step_to one st index id at label stack base vs conclusion all ready as_many move) (subst (IsWithin limit) whole fits) in
    subst (λ l. Passed (IsWithin limit) (take index st) (moves ++ name label ∷ []) l kept) (sym (named_push st (take base stack) made ∙ ap (λ x. all_names_at st (take base stack) ++ x ∷ []) whole)) next

-- ---- the symbols of what is made

known_from : (st : List Sentence) (index : ℕ) (ns : List ℕ) (xs : List (List ℕ)) → AreNumbers st ns xs
    → ((x : List ℕ) → Contains xs x → ¬ (¬ (IsConstant (take index st) x ⊎ IsVariable (take index st) x))) → AreDeclaredSymbols st (take index st) ns
known_from st index [] xs are known = tt
known_from st index (n ∷ ns) [] are known = absurd cc
known_from st index (n ∷ ns) (x ∷ xs) are known =
    let here : slice_get (symbols_of st) n ≡ Some x = cc in
    let rest : AreNumbers st ns xs = cc in (
      record {
        below = slice_get_within (symbols_of st) n x here;
        declared = subst (λ (y : List ℕ). ¬ (¬ (IsConstant (take index st) y ⊎ IsVariable (take index st) y))) (sym (name_is st n x here)) (known x (0, omega arith, refl));
      },
      known_from st index ns xs rest (λ y c. known y (suc c.0, omega (arith, c.1), c.2)),
    )

-- the symbols of a statement before the index were declared before it
known_symbols : (st : List Sentence) (index at : ℕ) (s : Sentence) (pattern : List ℕ) → AllMeant st → slice_get st at ≡ Some s → at < index → IsUse s.kind → AreNumbers st pattern s.symbols
    → AreDeclaredSymbols st (take index st) pattern
known_symbols st index at s pattern all there less in_use numbers =
    known_from st index pattern s.symbols numbers (λ x has none. meant_at st at s all there M7 (
      in_use,
      (
        x,
        has,
        (λ a.
            let prefix = sym (take-take at index st (omega (arith, less))) in
            let held = subst (λ (l : List Sentence). slice_get l a.0 ≡ Some a.1) prefix a.2 in
            let found = (get_from_take (take index st) at a.0 a.1 held).1 in
            none (⊎_elim (λ c. inl (a.0, a.1, found, c)) (λ v. inr (a.0, a.1, found, v)) a.4)),
      ),
    ))

piece_symbols : (st before : List Sentence) (n : ℕ) (o : Option (List ℕ)) → IsSymbol st before n → ((v : List ℕ) → o ≡ Some v → AreDeclaredSymbols st before v) → AreDeclaredSymbols st before (unwrap_or o (n ∷ []))
piece_symbols st before n None is some = (is, tt)
piece_symbols st before n (Some v) is some = some v refl

replaced_symbols : (st before : List Sentence) (vs : List (Option ℕ)) (es : List (List ℕ)) (ns : List ℕ) → AreStackEntries st before es → AreDeclaredSymbols st before ns
    → AreDeclaredSymbols st before (replaced_in (value_of vs es) ns)
replaced_symbols st before vs es [] all are = tt
replaced_symbols st before vs es (n ∷ ns) all are =
    all_append (IsSymbol st before) _ _
    (piece_symbols st before n (value_of vs es n) are.0 (λ v is. value_symbols st before vs es n v all is)) (replaced_symbols st before vs es ns all are.1)

pub entries_drop : (st before : List Sentence) (n : ℕ) (entries : List (List ℕ))
    → AreStackEntries st before entries → AreStackEntries st before (drop n entries)
entries_drop st before n entries all =
    all_back (AreDeclaredSymbols st before) (take n entries) (drop n entries)
    (rw (take-append-drop n entries) all)

-- the numbers on the stack past an index are those of symbols
pub drop_below : (st before : List Sentence) (base : ℕ) (stack : List (List ℕ))
    → AreStackEntries st before stack → AllByRecursion (AreBelow st) (drop base stack)
drop_below st before base stack entries =
    all_weaker (AreDeclaredSymbols st before) (AreBelow st) (symbols_below st before)
    (drop base stack) (entries_drop st before base stack entries)

-- what the step makes has declared symbols
pub replaced_entries : (st : List Sentence) (index at : ℕ) (s : Sentence) (stack : List (List ℕ))
    (base : ℕ) (vs : List (Option ℕ)) (pattern made : List ℕ) → AllMeant st
    → slice_get st at ≡ Some s → at < index → IsUse s.kind → AreNumbers st pattern s.symbols
    → made ≡ replaced_in (value_of vs (drop base stack)) pattern
    → AreStackEntries st (take index st) stack → AreStackEntries st (take index st)
    (take base stack ++ made ∷ [])
replaced_entries st index at s stack base vs pattern made all there less in_use numbers is entries =
    let known = known_symbols st index at s pattern all there less in_use numbers in
    all_push (AreDeclaredSymbols st (take index st)) (take base stack) made
    (all_prefix _ (take base stack) (drop base stack) (rw (take-append-drop base stack) entries))
    (subst (AreDeclaredSymbols st (take index st)) (sym is)
    (replaced_symbols st (take index st) vs (drop base stack) pattern
    (entries_drop st (take index st) base stack entries) known))

pub made_entries : (st : List Sentence) (index id at : ℕ) (stack : List (List ℕ)) (base : ℕ) (vs : List (Option ℕ)) (conclusion : List Piece) (made : List ℕ) → AllMeant st
    → IsReady st index id at vs (drop base stack) conclusion → length (drop base stack) ≡ length vs
    → made ≡ all_said_by (drop base stack) conclusion → AreStackEntries st (take index st) stack → AreStackEntries st (take index st) (take base stack ++ made ∷ [])
made_entries st index id at stack base vs conclusion made all ready as_many is entries =
    replaced_entries st index at ready.called.s stack base vs ready.concluded.0 made all
    ready.called.numbered.there ready.called.before
    (inr (inr (inr ready.called.kind))) ready.concluded.1 (is ∙ made_is st index id at vs
    (drop base stack) conclusion as_many ready) entries

-- ---- what the frame tells

-- the assertion of a signature is the one with the number
pub called_of : (st : List Sentence) (index id : ℕ) (signature : Signature) → (is : IsEarlierSignature st index id signature) → IsAppliedAssertion st index id is.at (label_ids signature.hypotheses.now) is.hypotheses.hypotheses
called_of st index id signature is = record {
  s = is.s;
  numbered = is.numbered;
  kind = is.kind;
  before = is.before;
  mandatory = subst (λ (t : Sentence). AreMandatory (take is.at st) t is.hypotheses.hypotheses) (same_Some is.hypotheses.assertion is.s (sym is.hypotheses.there ∙ is.numbered.there)) is.hypotheses.mandatory;
  known = is.hypotheses.numbered;
}

pub ready_of : (st : List Sentence) (index id : ℕ) (signature : Signature) (entries : List (List ℕ)) → (is : IsEarlierSignature st index id signature)
    → IsMatched st index is.hypotheses.hypotheses (variables_of signature.hypotheses.now) entries (pairs_in signature.pairs.now)
    → IsReady st index id is.at (variables_of signature.hypotheses.now) entries signature.conclusion.now
unfolding called_of
ready_of st index id signature entries is matched = record {
  ids = label_ids signature.hypotheses.now;
  hs = is.hypotheses.hypotheses;
  pairs = pairs_in signature.pairs.now;
  called = called_of st index id signature is;
  typed = typed_variables st signature.hypotheses.now is.hypotheses.hypotheses is.typed is.hypotheses.numbered;
  mandatory = is.pairs;
  matched = matched;
  concluded = is.concluded;
}

-- ---- the step by a hypothesis

pub is_hypothesis_kind : (k : LabelKind) → (k ≡ kinds.Floating) ⊎ (k ≡ kinds.Essential) → IsHypothesis (kind_behind k)
is_hypothesis_kind k (inl f) = inl (ap kind_behind f)
is_hypothesis_kind k (inr e) = inr (ap kind_behind e)

pub is_assertion_kind : (k : LabelKind) → ¬ (k ≡ kinds.Floating) → ¬ (k ≡ kinds.Essential) → IsAssertion (kind_behind k)
is_assertion_kind kinds.Floating f e = absurd (f refl)
is_assertion_kind kinds.Essential f e = absurd (e refl)
is_assertion_kind kinds.Axiom f e = inl refl
is_assertion_kind kinds.Proof f e = inr refl

hypothesis_step : (st : List Sentence) (index id : ℕ) (used label : List ℕ) (stack : List (List ℕ)) → (u : MayBeUsed st index used id) → IsHypothesis u.s.kind
    → IsNumberedMove st (name id) (name label) → StepTo (take index st) (all_names_at st stack) label (all_names_at st stack) u.s.symbols
hypothesis_step st index id used label stack u kind move =
    step_of_hypothesis (take index st) (all_names_at st stack) label u.at u.s (get_take st index u.at u.before ∙ u.numbered.there)
    (⊎_elim (λ h. h.1) (λ a. absurd (not_both_kinds u.s.kind kind a)) u.kind)
    (label_of st id u.at u.s label u.numbered move) kind

module _ (limit : ℕ) (st : List Sentence) (index id : ℕ) (used : List ℕ) (stack : List (List ℕ))
    (expression : List ℕ) (all : AllMeant st) (u : MayBeUsed st index used id)
    (kind : IsHypothesis u.s.kind) (numbers : AreNumbers st expression u.s.symbols) where
  pub stops_long : limit < length expression → StopsAt limit st index id stack L1
  stops_long over label kept move =
      let is = named_is st expression u.s.symbols numbers in
      let size : length (names_at st expression) ≡ length expression = length-map expression (name_at st) in
      first_L1 (IsWithin limit) (take index st) (all_names_at st stack) kept label (all_names_at st stack) u.s.symbols (allmeant_prefix st index all)
      (λ within. let w = subst (IsWithin limit) (sym is) within in omega (arith, w, size, over)) (hypothesis_step st index id used label stack u kind move)

  pub pushes : length expression ≤ limit
      → CarriesOn limit st index id stack (stack ++ expression ∷ [])
  pushes within label moves kept move passed =
      let is = named_is st expression u.s.symbols numbers in
      let size : length (names_at st expression) ≡ length expression = length-map expression (name_at st) in
      let fits : IsWithin limit (names_at st expression) = omega (arith, within, size) in
      let next = passed_name (IsWithin limit) (take index st) moves (all_names_at st stack) kept label (all_names_at st stack) u.s.symbols (allmeant_prefix st index all) passed
      (hypothesis_step st index id used label stack u kind move) (subst (IsWithin limit) is fits) in
      subst (λ l. Passed (IsWithin limit) (take index st) (moves ++ name label ∷ []) l kept) (sym (named_push st stack expression ∙ ap (λ x. all_names_at st stack ++ x ∷ []) is)) next

pub pushed_entries : (st : List Sentence) (index id : ℕ) (used : List ℕ) (stack : List (List ℕ)) (expression : List ℕ) → AllMeant st → (u : MayBeUsed st index used id) → IsHypothesis u.s.kind
    → AreNumbers st expression u.s.symbols → AreStackEntries st (take index st) stack → AreStackEntries st (take index st) (stack ++ expression ∷ [])
pushed_entries st index id used stack expression all u kind numbers entries =
    all_push (AreDeclaredSymbols st (take index st)) stack expression entries
    (known_symbols st index u.at u.s expression all u.numbered.there u.before
    (⊎_elim (λ f. inr (inl f)) (λ e. inr (inr (inl e))) kind) numbers)
