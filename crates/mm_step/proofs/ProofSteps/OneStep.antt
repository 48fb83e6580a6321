-- One step of a proof on a stack of expressions, as a relation, and that it makes one thing only;
-- before it what statements and frames have of which no rule of meaning is broken.
use Rattle.std.proofs.Common.{◌≡◌, ℕ, List, take, slice_get, Contains, Some, inl, inr, refl, sym}
use Rattle.std.proofs.Common.{ap, subst, ◌∙◌, arith, ◌+◌, ◌<◌, length, drop}
use Rattle.std.proofs.Common.{Option, None, ◌⊎◌}
use Rattle.std.proofs.lemmas.Option.{same_Some}
use Rattle.mm_base.specs.declared.statement.Kind.TheVariants.{Constants, Floating, Essential}
use Rattle.mm_frame.specs.declared.rule.MeaningRule.TheVariants.{M10}
use Rattle.mm_frame.specs.Sentence.{Sentence, Declares, IsLabelled, Types, IsHypothesis}
use Rattle.mm_frame.specs.Sentence.{IsAssertion}
use Rattle.mm_frame.specs.Active.{IsVariable, IsActive, IsTyped}
use Rattle.mm_frame.specs.Rules.{AllMeant}
use Rattle.mm_frame.proofs.Rules.ObeyedRules.{meant_at, one_role, one_label as only_index}
use Rattle.mm_frame.proofs.Rules.ObeyedRules.{allmeant_prefix, some_later, used_declared}
use Rattle.mm_frame.proofs.Rules.ObeyedRules.{mandatory_typed}
use Rattle.mm_frame.specs.Frame.{IsMandatory, IsMandatoryAt, AreMandatory}
use Rattle.mm_frame.specs.Frame.{IsMandatoryPair}
use Rattle.std.proofs.lemmas.List.{length-append}
use Rattle.mm_base.specs.declared.statement.Kind.{Kind}
use Rattle.mm_frame.proofs.Frames.FrameLaws.{those_unique, those_have}
pub use Rattle.mm_frame.proofs.Frames.FrameLaws.{those_hold}
use Rattle.mm_step.specs.declared.fault.ProofRule.{ProofRule}
use Rattle.mm_step.specs.declared.fault.ProofRule.TheVariants.{P8, P9, P10, P11, P12, L1}
use Rattle.mm_step.specs.Substitution.{IsOn, instance_of}
use Rattle.mm_step.specs.Tree.{Names, KeepsApart}
use Rattle.mm_step.specs.Proof.{MeetsHypotheses, BreaksStep}
use Rattle.mm_base.proofs.Lists.{get_beside, one_parting}

-- ==== what statements that break no rule of meaning have: one place for each label, and type codes
-- that are no variables

-- ---- labels

module _ (before : List Sentence) (i j : ℕ) (s t : Sentence) (label : List ℕ)
    (all : AllMeant before) where
  -- two indices with one label are one index
  pub one_label : slice_get before i ≡ Some s → slice_get before j ≡ Some t → IsLabelled label s
      → IsLabelled label t → i ≡ j
  one_label = only_index before label i j s t all

  -- two indices with one label hold one statement
  pub one_labelled : slice_get before i ≡ Some s → slice_get before j ≡ Some t → IsLabelled label s
      → IsLabelled label t → s ≡ t
  one_labelled at_i at_j ls lt =
      same_Some s t (sym at_i ∙ ap (slice_get before) (one_label at_i at_j ls lt) ∙ at_j)

-- ---- constants and variables

-- a type code is no variable
pub code_is_constant : (before : List Sentence) (i : ℕ) (f : Sentence) (code x : List ℕ) → AllMeant before → slice_get before i ≡ Some f → Types code x f → ¬ (IsVariable before code)
code_is_constant before i f code x all there types variable =
    let meant = meant_at before i f all there in
    let has = subst (λ l. Contains l code) (sym types.1) (0, omega arith, refl) in
    elim (used_declared (take i before) f code meant (inr (inl types.0)) has) [
      | inl constant ↦
          one_role before code all (some_later before i (Declares Constants code) constant) variable
      | inr declared ↦ meant M10 (code, x, types, declared)
    ]

-- ==== one step of a proof on a stack of expressions, as a relation, and that it makes one thing
-- only

-- the label is that of an active hypothesis, whose expression is pushed
pub record Pushes (before : List Sentence) (stack : List (List (List ℕ))) (label : List ℕ) (rest : List (List (List ℕ))) (e : List (List ℕ)) : Type 0 where
  pub kept : rest ≡ stack
  pub index : ℕ
  pub hypothesis : Sentence
  pub there : slice_get before index ≡ Some hypothesis
  pub active : IsActive before index
  pub named : IsLabelled label hypothesis
  pub kind : IsHypothesis hypothesis.kind
  pub made : e ≡ hypothesis.symbols

-- the label is that of an earlier assertion, whose substituted expression replaces the entries of its hypotheses
pub record Applies (before : List Sentence) (stack : List (List (List ℕ))) (label : List ℕ) (rest : List (List (List ℕ))) (e : List (List ℕ)) : Type 0 where
  pub meets : MeetsHypotheses before stack label
  pub kept : rest ≡ meets.rest
  pub typed : (i : ℕ) (h : Sentence) (entry : List (List ℕ)) → slice_get meets.hypotheses i ≡ Some h → slice_get meets.entries i ≡ Some entry
      → h.kind ≡ Floating → slice_get entry 0 ≡ slice_get h.symbols 0
  pub equal : (i : ℕ) (h : Sentence) (entry : List (List ℕ)) → slice_get meets.hypotheses i ≡ Some h → slice_get meets.entries i ≡ Some entry
      → h.kind ≡ Essential → entry ≡ instance_of meets.σ h.symbols
  pub apart : KeepsApart before meets.index meets.assertion meets.σ
  pub made : e ≡ instance_of meets.σ meets.assertion.symbols

-- The step by this label on the stack breaks no rule: it keeps the rest of the stack and puts the expression on it.
abbrev pub StepTo : List Sentence → List (List (List ℕ)) → List ℕ → List (List (List ℕ)) → List (List ℕ) → Type 0
StepTo before stack label rest e = Pushes before stack label rest e ⊎ Applies before stack label rest e

-- ---- hypotheses and assertions have different labels

pub not_both_kinds : (k : Kind) → IsHypothesis k → IsAssertion k → ⊥
not_both_kinds k h a = grind arith

pub hypothesis_or_assertion : (before : List Sentence) (i j : ℕ) (h a : Sentence) (label : List ℕ) → AllMeant before → slice_get before i ≡ Some h → slice_get before j ≡ Some a
    → IsLabelled label h → IsLabelled label a → IsHypothesis h.kind → IsAssertion a.kind → ⊥
hypothesis_or_assertion before i j h a label all at_i at_j lh la kh ka =
    not_both_kinds a.kind (subst (λ (s : Sentence). IsHypothesis s.kind) (one_labelled before i j h a label all at_i at_j lh la) kh) ka

-- ---- what σ replaces is determined

-- σ replaces the variable of each `$f` by what follows the first symbol of its entry
abbrev Replaces : List Sentence → List (List (List ℕ)) → (List ℕ → Option (List (List ℕ))) → Type 0
Replaces hypotheses entries σ = (i : ℕ) (h : Sentence) (entry : List (List ℕ)) (code x : List ℕ) → slice_get hypotheses i ≡ Some h
    → slice_get entries i ≡ Some entry → Types code x h → σ x ≡ Some (drop 1 entry)

-- an active `$f` of a mandatory variable is among the mandatory hypotheses
pub typing_among : (before : List Sentence) (label : List ℕ) (index : ℕ) (assertion : Sentence) (hypotheses : List Sentence) (x : List ℕ)
    → Names before label index assertion hypotheses → IsMandatory (take index before) assertion x → IsTyped (take index before) x
    → (i : ℕ) × (f : Sentence) × (code : List ℕ) × (slice_get hypotheses i ≡ Some f) × Types code x f
typing_among before label index assertion hypotheses x names mandatory f =
    let at : f.0 ≡ 0 + f.0 = omega arith in
    let h = those_have (IsMandatoryAt (take index before) assertion) 0 (take index before) hypotheses f.0 f.1 names.mandatory f.2
    (subst (λ k. IsMandatoryAt (take index before) assertion k f.1) at (f.3, inr (f.4.0, x, f.4.1, mandatory))) in
    (h.0, f.1, f.4.0, h.1, f.4.1)

one_replacement : (before : List Sentence) (label : List ℕ) (index : ℕ) (assertion : Sentence) (hypotheses : List Sentence) (entries : List (List (List ℕ)))
    (σ τ : List ℕ → Option (List (List ℕ))) → AllMeant before → Names before label index assertion hypotheses → length entries ≡ length hypotheses
    → IsOn (IsMandatory (take index before) assertion) σ → IsOn (IsMandatory (take index before) assertion) τ
    → Replaces hypotheses entries σ → Replaces hypotheses entries τ → (x : List ℕ) → σ x ≡ τ x
one_replacement before label index assertion hypotheses entries σ τ all names l on_σ on_τ s t x = go (σ x) (τ x) refl refl
  where
    mandatory_same : IsMandatory (take index before) assertion x → σ x ≡ τ x
    mandatory_same m =
        let prefix = allmeant_prefix before index all in
        let meant = meant_at before index assertion all names.there in
        let typed = mandatory_typed (take index before) assertion x prefix meant (inr names.kind) m in
        let f = typing_among before label index assertion hypotheses x names m typed in
        let e = get_beside hypotheses entries f.0 f.1 l f.3 in
        s f.0 f.1 e.0 f.2 x f.3 e.1 f.4 ∙ sym (t f.0 f.1 e.0 f.2 x f.3 e.1 f.4)

    go : (a b : Option (List (List ℕ))) → σ x ≡ a → τ x ≡ b → σ x ≡ τ x
    go None None p q = p ∙ sym q
    go (Some a) b p q = mandatory_same ((on_σ x).0 (rw p refl))
    go None (Some b) p q = mandatory_same ((on_τ x).0 (rw q refl))

-- ---- what a step meets is determined

pub one_frame : (before : List Sentence) (index index' : ℕ) (a a' : Sentence) (hypotheses hypotheses' : List Sentence) → index ≡ index' → a ≡ a'
    → AreMandatory (take index before) a hypotheses → AreMandatory (take index' before) a' hypotheses' → hypotheses ≡ hypotheses'
one_frame before index index' a a' hypotheses hypotheses' p s m m' =
    those_unique (IsMandatoryAt (take index' before) a') 0 (take index' before) hypotheses hypotheses'
    (subst (λ b. AreMandatory (take index' before) b hypotheses) s (subst (λ k. AreMandatory (take k before) a hypotheses) p m)) m'

pub record Agree (before : List Sentence) (stack : List (List (List ℕ))) (label : List ℕ) (m n : MeetsHypotheses before stack label) : Type 0 where
  pub index : m.index ≡ n.index
  pub assertion : m.assertion ≡ n.assertion
  pub hypotheses : m.hypotheses ≡ n.hypotheses
  pub rest : m.rest ≡ n.rest
  pub entries : m.entries ≡ n.entries
  pub replacement : (x : List ℕ) → m.σ x ≡ n.σ x

pub agree : (before : List Sentence) (stack : List (List (List ℕ))) (label : List ℕ) → AllMeant before → (m n : MeetsHypotheses before stack label) → Agree before stack label m n
agree before stack label all m n =
    let index : m.index ≡ n.index = one_label before m.index n.index m.assertion n.assertion label all m.names.there n.names.there m.names.named n.names.named in
    let assertion : m.assertion ≡ n.assertion = one_labelled before m.index n.index m.assertion n.assertion label all m.names.there n.names.there m.names.named n.names.named in
    let hypotheses : m.hypotheses ≡ n.hypotheses = one_frame before m.index n.index m.assertion n.assertion m.hypotheses n.hypotheses index assertion m.names.mandatory n.names.mandatory in
    let parts = one_parting m.rest m.entries n.rest n.entries (sym m.split ∙ n.split) (m.paired ∙ ap length hypotheses ∙ sym n.paired) in
    let on = rw (index, assertion) at m.on in
    let replaced = rw (hypotheses, parts.1) at m.replaced in
    record {
      index = index;
      assertion = assertion;
      hypotheses = hypotheses;
      rest = parts.0;
      entries = parts.1;
      replacement = one_replacement before label n.index n.assertion n.hypotheses n.entries m.σ n.σ all n.names n.paired on n.on replaced n.replaced;
    }

pub same_substituted : (σ τ : List ℕ → Option (List (List ℕ))) (e : List (List ℕ)) → ((x : List ℕ) → σ x ≡ τ x) → instance_of σ e ≡ instance_of τ e
same_substituted σ τ e same = ap (λ ρ. instance_of ρ e) (λ i x. same x i)

-- a step makes one thing only
pub step_once : (before : List Sentence) (stack : List (List (List ℕ))) (label : List ℕ) (rest rest' : List (List (List ℕ))) (e e' : List (List ℕ)) → AllMeant before
    → StepTo before stack label rest e → StepTo before stack label rest' e' → (rest ≡ rest') × (e ≡ e')
step_once before stack label rest rest' e e' all (inl p) (inl q) = (
  p.kept ∙ sym q.kept,
  p.made ∙ ap (λ (s : Sentence). s.symbols) (one_labelled before p.index q.index p.hypothesis q.hypothesis label all p.there q.there p.named q.named) ∙ sym q.made,
)
step_once before stack label rest rest' e e' all (inl p) (inr q) =
    absurd (hypothesis_or_assertion before p.index q.meets.index p.hypothesis q.meets.assertion label all p.there q.meets.names.there p.named q.meets.names.named p.kind q.meets.names.kind)
step_once before stack label rest rest' e e' all (inr p) (inl q) =
    absurd (hypothesis_or_assertion before q.index p.meets.index q.hypothesis p.meets.assertion label all q.there p.meets.names.there q.named p.meets.names.named q.kind p.meets.names.kind)
step_once before stack label rest rest' e e' all (inr p) (inr q) =
    let a = agree before stack label all p.meets q.meets in (
      p.kept ∙ a.rest ∙ sym q.kept,
      p.made ∙ same_substituted p.meets.σ q.meets.σ p.meets.assertion.symbols a.replacement ∙ ap (λ (s : Sentence). instance_of q.meets.σ s.symbols) a.assertion ∙ sym q.made,
    )

-- ---- a step that breaks no rule breaks no rule

-- one label names one assertion's hypotheses
pub one_names : (before : List Sentence) (label : List ℕ) (index index' : ℕ) (a a' : Sentence) (hypotheses hypotheses' : List Sentence) → AllMeant before
    → Names before label index a hypotheses → Names before label index' a' hypotheses' → hypotheses ≡ hypotheses'
one_names before label index index' a a' hypotheses hypotheses' all n n' =
    one_frame before index index' a a' hypotheses hypotheses' (one_label before index index' a a' label all n.there n'.there n.named n'.named)
    (one_labelled before index index' a a' label all n.there n'.there n.named n'.named) n.mandatory n'.mandatory

-- where the step meets all hypotheses, the stack isn't too short
pub meets_enough : (Fits : List (List ℕ) → Type 0) (before : List Sentence) (stack : List (List (List ℕ))) (label : List ℕ) → AllMeant before → MeetsHypotheses before stack label → ¬ (BreaksStep Fits P8 before stack label)
meets_enough Fits before stack label all m b =
    let same = one_names before label m.index b.0 m.assertion b.1 m.hypotheses b.2 all m.names b.3 in
    let l : length stack ≡ length m.rest + length m.entries = ap length m.split ∙ length-append m.rest m.entries in
    let n : length m.hypotheses ≡ length b.2 = ap length same in
    let k : length m.entries ≡ length m.hypotheses = m.paired in
    let less : length stack < length b.2 = b.4 in
    absurd (omega arith)

-- nor is it where a step breaks no rule
too_short : (Fits : List (List ℕ) → Type 0) (before : List Sentence) (stack : List (List (List ℕ))) (label : List ℕ) (rest : List (List (List ℕ))) (e : List (List ℕ)) → AllMeant before
    → StepTo before stack label rest e → BreaksStep Fits P8 before stack label → ⊥
too_short Fits before stack label rest e all (inl p) b =
    hypothesis_or_assertion before p.index b.0 p.hypothesis b.1 label all p.there b.3.there p.named b.3.named p.kind b.3.kind
too_short Fits before stack label rest e all (inr p) b = meets_enough Fits before stack label all p.meets b

module _ (before : List Sentence) (stack : List (List (List ℕ))) (label : List ℕ)
    (rest : List (List (List ℕ))) (e : List (List ℕ)) (m : MeetsHypotheses before stack label)
    (all : AllMeant before) where
  -- a step that meets something else is that step
  same_meets : StepTo before stack label rest e
      → (p : Applies before stack label rest e) × Agree before stack label p.meets m
  same_meets (inl p) =
      absurd (hypothesis_or_assertion before p.index m.index p.hypothesis m.assertion label all p.there m.names.there p.named m.names.named p.kind m.names.kind)
  same_meets (inr p) = (p, agree before stack label all p.meets m)

  apart_of : StepTo before stack label rest e → KeepsApart before m.index m.assertion m.σ
  apart_of step x y e' f pair at_x at_y =
      let (p, a) = same_meets step in
      let pair' : IsMandatoryPair (take p.meets.index before) p.meets.assertion x y =
      subst (λ b. IsMandatoryPair (take p.meets.index before) b x y) (sym a.assertion) (subst (λ k. IsMandatoryPair (take k before) m.assertion x y) (sym a.index) pair) in
      p.apart x y e' f pair' (a.replacement x ∙ at_x) (a.replacement y ∙ at_y)

-- A step that breaks no rule breaks none of P1 to P12, nor the limit if what it makes is within it.
pub step_breaks_none : (Fits : List (List ℕ) → Type 0) (rule : ProofRule) (before : List Sentence) (stack : List (List (List ℕ))) (label : List ℕ) (rest : List (List (List ℕ))) (e : List (List ℕ)) → AllMeant before
    → (rule ≡ L1 → Fits e) → StepTo before stack label rest e → ¬ (BreaksStep Fits rule before stack label)
step_breaks_none Fits P8 before stack label rest e all within step b = too_short Fits before stack label rest e all step b
step_breaks_none Fits P9 before stack label rest e all within step b =
    let s = same_meets before stack label rest e b.0 all step in
    let x = b.1 in
    x.5.1 (s.0.typed x.0 x.1 x.2 (rw s.1.hypotheses x.3) (rw s.1.entries x.4) x.5.0)
step_breaks_none Fits P10 before stack label rest e all within step b =
    let s = same_meets before stack label rest e b.0 all step in
    let x = b.1 in
    x.5.1 (s.0.equal x.0 x.1 x.2 (rw s.1.hypotheses x.3) (rw s.1.entries x.4) x.5.0 ∙ same_substituted s.0.meets.σ b.0.σ x.1.symbols s.1.replacement)
step_breaks_none Fits P11 before stack label rest e all within step b =
    b.8 (apart_of before stack label rest e b.0 all step b.1 b.2 b.3 b.4 b.5 b.6 b.7).0
step_breaks_none Fits P12 before stack label rest e all within step b =
    b.8 (apart_of before stack label rest e b.0 all step b.1 b.2 b.3 b.4 b.5 b.6 b.7).1
step_breaks_none Fits L1 before stack label rest e all within (inl p) (inl b) =
    let same : p.hypothesis ≡ b.1 = one_labelled before p.index b.0 p.hypothesis b.1 label all p.there b.2 p.named b.4.0 in
    b.4.2 (subst (λ l. Fits l) (p.made ∙ ap (λ (s : Sentence). s.symbols) same) (within refl))
step_breaks_none Fits L1 before stack label rest e all within (inr p) (inl b) =
    hypothesis_or_assertion before b.0 p.meets.index b.1 p.meets.assertion label all b.2 p.meets.names.there b.4.0 p.meets.names.named b.4.1 p.meets.names.kind
step_breaks_none Fits L1 before stack label rest e all within step (inr b) =
    let s = same_meets before stack label rest e b.0 all step in
    let same : e ≡ instance_of b.0.σ b.0.assertion.symbols = s.0.made ∙ same_substituted s.0.meets.σ b.0.σ s.0.meets.assertion.symbols s.1.replacement ∙ ap (λ (a : Sentence). instance_of b.0.σ a.symbols) s.1.assertion in
    b.1 (subst (λ l. Fits l) same (within refl))
step_breaks_none Fits rule before stack label rest e all within step b = b

-- a step that makes an expression over the limit breaks the limit
pub step_breaks_limit : (Fits : List (List ℕ) → Type 0) (before : List Sentence) (stack : List (List (List ℕ))) (label : List ℕ) (rest : List (List (List ℕ))) (e : List (List ℕ))
    → ¬ (Fits e) → StepTo before stack label rest e → BreaksStep Fits L1 before stack label
step_breaks_limit Fits before stack label rest e over (inl p) =
    inl (p.index, p.hypothesis, p.there, p.active, (p.named, p.kind, subst (λ l. ¬ (Fits l)) p.made over))
step_breaks_limit Fits before stack label rest e over (inr p) = inr (p.meets, subst (λ l. ¬ (Fits l)) p.made over)
