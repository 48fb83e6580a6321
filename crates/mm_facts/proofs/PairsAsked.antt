-- The mandatory pairs of the assertion that a step is by, by names, and what replaces their members.
use Rattle.std.proofs.Common.{◌≡◌, ℕ, ◌+◌, ◌<◌, List, [], ◌∷◌, ◌++◌, length, take, map, ◌⊎◌, inl, inr}
use Rattle.std.proofs.Common.{get_or, slice_get, Option, Some, None, ap, sym, subst, ◌∙◌, arith, true, option_map, Bool}
use Rattle.std.specs.List.{AllByRecursion}
use Rattle.std.proofs.lemmas.Bool.{eqb-true}
use Rattle.std.proofs.lemmas.List.{get_or-map}
use Rattle.std.proofs.lemmas.Option.{slice_get_within}
use Rattle.mm_frame.specs.Sentence.{Sentence, Types, IsAssertion}
use Rattle.mm_frame.specs.Numbers.{IsNumberOf, IsNumbered, symbols_of}
use Rattle.mm_frame.specs.Rules.{AllMeant}
use Rattle.mm_frame.specs.FrameIndex.{FrameIndex, ArePairs, HaveTypings, IsTypingOf}
use Rattle.mm_frame.specs.Pieces.{variables_of, IsFirstAt, is_of}
use Rattle.mm_frame.specs.declared.distinct.DistinctPair.{DistinctPair}
use Rattle.mm_frame.specs.declared.hypothesis.Hypothesis.{Hypothesis}
use Rattle.mm_frame.specs.declared.number.Sym.{Sym}
use Rattle.mm_frame.proofs.Frames.VariableIndices.{variables_counted}
use Rattle.mm_step.specs.Substitution.{Symbol, Expression}
use Rattle.mm_step.specs.Moves.{name}
use Rattle.mm_step.specs.Steps.{IsNumberedMove}
use Rattle.mm_step.specs.Proof.{MeetsHypotheses}
use Rattle.mm_step.specs.Mirror.CodeVerify.{name_at, pairs_in, AreHypothesesOf}
use Rattle.mm_step.proofs.ByNumbers.NumberedSymbols.{name_is, hypothesis_at, no_hypothesis}
use Rattle.std.specs.List.{AllZip}
use Rattle.mm_frame.specs.Numbers.{AreNumbers}
use Rattle.mm_frame.specs.FrameIndex.{AreHypotheses}
use Rattle.mm_frame.specs.Pieces.{HaveMandatoryIndices}
use Rattle.mm_frame.proofs.Rules.ObeyedRules.{allmeant_prefix}
use Rattle.mm_step.specs.declared.fault.ProofRule.{ProofRule}
use Rattle.mm_step.specs.declared.fault.ProofRule.TheVariants.{P11, P12}
use Rattle.mm_listing.specs.declared.halt.Halt.{Halt}
use Rattle.mm_listing.specs.Halted.{HaltsProof, TellsEntry}
use Rattle.mm_step.specs.Proof.{IsWithin}
use Rattle.mm_step.specs.Moves.{Move}
use Rattle.mm_proof.specs.Asked.{AreDeclared}
use Rattle.mm_proof.proofs.ProofNumbers.DeclaredSymbols.{passed_symbols}
use Rattle.mm_facts.proofs.HaltDetails.{StepLeft, broken_step}
use Rattle.mm_facts.proofs.AskedDetails.{sizes, entries_zip}
use Rattle.mm_rules.specs.Explained.{AreMandatoryPairs}
use Rattle.mm_facts.specs.Mirror.Explaining.{ReplacesBy, IsPairWithin}
use Rattle.mm_rules.specs.Mirror.Explaining.{named_pairs}
use Rattle.mm_rules.proofs.PairsNamed.{numbered_at, pairs_met}

-- ---- what replaces a member

-- the variable of the `$f` at an index
replaced_by_typing : (st : List Sentence) (n : ℕ) (h : Sentence) (typing : Option (Sym × Sym))
    → is_of n (option_map (λ t. t.1.0) typing) ≡ true → IsTypingOf st typing h
    → (code : List ℕ) × Types code (name_at st n) h
replaced_by_typing st n h None is typed = absurd cc
replaced_by_typing st n h (Some t) is (code, x, types, first, second) =
    let same : t.1.0 ≡ n = eqb-true t.1.0 n is in
    let named : name_at st n ≡ x = name_is st n x (subst (IsNumberOf st x) same second) in
    (code, subst (λ (z : Symbol). Types code z h) (sym named) types)

pub member_replaced : (st before : List Sentence) (stack : List Expression) (label : List ℕ)
    (m : MeetsHypotheses before stack label) (xs : List Hypothesis) → HaveTypings st xs
    → AreHypothesesOf st (map (λ h. h.id.0) xs) m.hypotheses → (n i : ℕ) → IsFirstAt n (variables_of xs) i
    → ReplacesBy st m.σ m.entries n i
member_replaced st before stack label m xs typed known n i first entry there =
    let within = first.within in
    let count = variables_counted xs in
    let less : i < length xs = omega arith in
    let h = hypothesis_at st xs m.hypotheses i no_hypothesis typed known less in
    let mapped : get_or (variables_of xs) i None ≡ option_map (λ t. t.1.0) (get_or xs i no_hypothesis).typing =
    get_or-map (λ (x : Hypothesis). option_map (λ t. t.1.0) x.typing) xs i no_hypothesis None less in
    let is : is_of n (option_map (λ t. t.1.0) (get_or xs i no_hypothesis).typing) ≡ true = ap (is_of n) (sym mapped) ∙ first.is in
    let found = replaced_by_typing st n h.0 (get_or xs i no_hypothesis).typing is h.3 in
    m.replaced i h.0 entry found.0 (name_at st n) h.1 there found.1

-- what holds of all holds of those behind
pub all_behind : {X : Type 0} (P : X → Type 0) (xs ys : List X) → AllByRecursion P (xs ++ ys) → AllByRecursion P ys
all_behind P [] ys all = all
all_behind P (x ∷ xs) ys all = all_behind P xs ys all.1

-- ---- the step

-- it meets its hypotheses
pub apart_meets : (limit : ℕ) (st before : List Sentence) (s : Sentence) (prefix : Bool)
    (moves : List (Move (List ℕ))) (halt : Halt) (h : HaltsProof limit st before s prefix moves halt)
    (id : ℕ) (step : StepLeft st h.there.left id) (rule : ProofRule) → halt.rule ≡ Some rule
    → (rule ≡ P11) ⊎ (rule ≡ P12) → MeetsHypotheses before h.there.stack step.label
apart_meets limit st before s prefix moves halt h id step rule is (inl r) =
    (broken_step limit st before s prefix moves halt h id step P11 (is ∙ ap Some r)).0
apart_meets limit st before s prefix moves halt h id step rule is (inr r) =
    (broken_step limit st before s prefix moves halt h id step P12 (is ∙ ap Some r)).0

-- what is known of its entries, and of its mandatory pairs
pub record DisjointStep (st before : List Sentence) (stack : List Expression) (label : List ℕ)
    (m : MeetsHypotheses before stack label) (count : ℕ) (es : List (List ℕ))
    (ps : List DistinctPair) : Type 0 where
  pub zip : AllZip (AreNumbers st) es m.entries
  pub declared : AllByRecursion (AreDeclared before) m.entries
  pub within : (i : ℕ) (p : DistinctPair) → slice_get ps i ≡ Some p → IsPairWithin st count p
  pub replaced : (i : ℕ) (p : DistinctPair) → slice_get ps i ≡ Some p
      → ReplacesBy st m.σ m.entries p.variables.0.0 p.indices.0
      × ReplacesBy st m.σ m.entries p.variables.1.0 p.indices.1
  pub mandatory : AreMandatoryPairs (take m.index before) m.assertion (named_pairs st ps)

pub apart_step : (limit : ℕ) (st : List Sentence) (index : ℕ) (s : Sentence) (prefix : Bool)
    (moves : List (Move (List ℕ))) (halt : Halt)
    (h : HaltsProof limit st (take index st) s prefix moves halt) → AllMeant st → (id : ℕ)
    (frame : FrameIndex) → frame.statements ≡ st
    → (a : Sentence) → IsNumbered st id frame.index a → IsAssertion a.kind → (xs : List Hypothesis)
    → AreHypotheses frame (map (λ h. h.id.0) xs) → (ps : List DistinctPair) → ArePairs frame (pairs_in ps)
    → HaveMandatoryIndices frame ps → (label : List ℕ)
    → IsNumberedMove st (name id) (name label) → (m : MeetsHypotheses (take index st) h.there.stack label)
    → (base : ℕ) → base + length xs ≡ length halt.origins.items → (es : List (List ℕ))
    → base + length es ≡ length halt.origins.items
    → ((k : ℕ) (numbers : List ℕ) → slice_get es k ≡ Some numbers → TellsEntry halt (base + k) numbers)
    → DisjointStep st (take index st) h.there.stack label m (length xs) es ps
apart_step limit st index s prefix moves halt h all id frame same a numbered kind xs ids ps pairs indices label move m base sum es count tells =
    let at = frame.index in
    let frame_is : frame ≡ record { statements = st; index = at } =
    ap (λ ss. let f : FrameIndex = record { statements = ss; index = at } in f) same in
    let are = subst (λ f. ArePairs f (pairs_in ps)) frame_is pairs in
    let z = sizes limit st index s prefix moves halt h all id frame same a numbered kind xs ids label move m in
    let z' = sizes limit st index s prefix moves halt h all id frame same a numbered kind indices.0 indices.1 label move m in
    let typed = subst (λ ss. HaveTypings ss indices.0) same indices.2 in
    let origins = z.origins in
    let many = z.hypotheses in
    let others = z'.hypotheses in
    let counted = variables_counted indices.0 in
    record {
      zip = entries_zip limit st (take index st) s prefix moves halt h label m base es (omega arith) count tells;
      declared = all_behind (AreDeclared (take index st)) m.rest m.entries
          (subst (AllByRecursion (AreDeclared (take index st))) m.split
          (passed_symbols (take index st) (allmeant_prefix st index all) (IsWithin limit) h.there.earlier h.there.stack h.there.kept h.there.passed));
      within = λ i p there.
          let n = numbered_at st at ps are i p there in
          let has = indices.3 i p there in
          let first = has.0.within in
          let second = has.1.within in
          record {
            x = slice_get_within (symbols_of st) p.variables.0.0 _ n.0;
            y = slice_get_within (symbols_of st) p.variables.1.0 _ n.1;
            first = omega arith;
            second = omega arith;
          };
      replaced = λ i p there.
          let has = indices.3 i p there in (
            member_replaced st (take index st) h.there.stack label m indices.0 typed z'.numbered p.variables.0.0 p.indices.0 has.0,
            member_replaced st (take index st) h.there.stack label m indices.0 typed z'.numbered p.variables.1.0 p.indices.1 has.1,
          );
      mandatory = pairs_met st at ps are index all id a numbered label move h.there.stack m;
    }
