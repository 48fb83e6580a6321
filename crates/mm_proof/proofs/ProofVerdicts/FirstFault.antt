-- Each proof has one verdict: it is proved, or it has one first fault; and how that is found, rule
-- by rule.
use Rattle.std.proofs.Common.{ℕ, Result, IfErr, subst, sym, ◌≡◌, ◌≢◌, ◌+◌, ◌<◌, List, [], ◌∷◌, ◌++◌}
use Rattle.std.proofs.Common.{length, slice_get, Some, ◌⊎◌, inl, inr, ⊎_elim, refl, ap, ◌∙◌, arith}
use Rattle.std.proofs.Common.{zero, suc, ◌-◌, take, drop, get_or, Option, None, append_assoc}
use Rattle.std.proofs.Common.{append-nil, lt_irrefl, Ok, Err, IsErrAnd, IsOkUnless, cond, OnOk}
use Rattle.mm_step.specs.declared.fault.ProofRule.{ProofRule}
use Rattle.mm_step.specs.declared.fault.ProofFault.{ProofFault}
use Rattle.mm_step.specs.declared.fault.ProofFault.TheVariants.{Rule, Memory}
use Rattle.mm_proof.specs.Answer.{OnRule, IsUnlessMemory}
use Rattle.std.proofs.lemmas.Result.{IfErr-weaker, err_from_is_err_and}
use Rattle.std.proofs.lemmas.Option.{same_Some, none-some, slice_get-get_or, slice_get_within}
use Rattle.std.proofs.lemmas.Bool.{cases_order, cases_lt}
use Rattle.mm_base.proofs.Lists.{two_cuts}
use Rattle.mm_frame.specs.Sentence.{Sentence}
use Rattle.mm_frame.specs.Rules.{AllMeant}
use Rattle.mm_step.specs.declared.fault.ProofRule.TheVariants.{P1, P2, P3, P4, P5, P6, P7, P8, P9}
use Rattle.mm_step.specs.declared.fault.ProofRule.TheVariants.{P10, P11, P12, P13, P14, P15, L1}
use Rattle.mm_step.specs.Tree.{AnyExpression, Names, ShareNoVariable, AreDistinct}
use Rattle.mm_step.specs.Moves.{Move, steps_in, name, again, mark, is_step}
use Rattle.mm_step.specs.Proof.{IsWithin, proof_rank, BreaksMove, FirstAtMove}
use Rattle.mm_proof.specs.Proof.{BreaksWhole, Prove}
use Rattle.mm_step.specs.Proof.{Passed}
use Rattle.mm_proof.specs.Proof.{IsMoveFault, BreaksEnd, IsEndFault, IsMovesFault}
use Rattle.mm_step.specs.Proof.{MeetsHypotheses, SomePair, SomeReplacedPair, BreaksStep}
use Rattle.mm_proof.specs.Proof.{IsWhole}
use Rattle.mm_proof.specs.Laws.{OneTree}
use Rattle.mm_step.proofs.ProofSteps.Derivations.{derived_once, one_fit_holds, derive_fits}
use Rattle.mm_proof.proofs.ProofVerdicts.PassedMoves.{passed_once, proof_passed, no_fault_within}
use Rattle.mm_proof.proofs.ProofVerdicts.PassedMoves.{passed_none, passed_again}
use Rattle.mm_step.proofs.ProofSteps.PassedStep.{passed_name}
use Rattle.mm_proof.proofs.ProofVerdicts.PassedMoves.{passed_mark, prove_at_end}
use Rattle.mm_proof.proofs.ProofTokens.SaidMoves.{moves_once}
use Rattle.std.specs.List.{AllByRecursion}
use Rattle.std.proofs.lemmas.List.{length-drop, take-append-drop}
use Rattle.std.proofs.Math.Decide.{ℕ_discrete}
use Rattle.mm_base.specs.declared.statement.Kind.TheVariants.{Floating, Essential}
use Rattle.mm_frame.specs.Frame.{IsMandatoryAt, AreMandatory}
use Rattle.mm_frame.proofs.Rules.DecidedStatements.{dec_both, dec_as, dec_some, kind_dec}
use Rattle.mm_frame.proofs.Rules.DecidedStatements.{symbol_dec, dec_not, unless_not}
use Rattle.mm_frame.proofs.Rules.DecidedStatements.{mandatory_at_dec, expression_dec}
use Rattle.mm_step.specs.Substitution.{instance_of}
use Rattle.mm_step.specs.Steps.{IsUsable, IsUsableMove}
use Rattle.mm_step.proofs.ProofSteps.OneStep.{StepTo, hypothesis_or_assertion, meets_enough, Agree}
use Rattle.mm_step.proofs.ProofSteps.OneStep.{agree, same_substituted}
use Rattle.mm_proof.proofs.Members.{those_of, share_dec, apart_dec, some_pair_dec}
use Rattle.mm_step.proofs.ProofSteps.Replacements.{meets_of}
use Rattle.std.proofs.lemmas.List.Sums.{sum_by-append}
use Rattle.mm_step.specs.declared.profile.Profile.{Profile}
use Rattle.mm_proof.specs.Tokens.{SayMoves}
use Rattle.mm_proof.specs.CheckedPrefix.{Pass}
use Rattle.mm_proof.specs.Strict.{HasFormOf, IsTextFault}
use Rattle.mm_proof.specs.UnderProfile.{HaveFirstFault, HasNoFault, IsOneFault}
use Rattle.mm_step.proofs.ProofSteps.FirstAtStep.{FirstAtStep, below, below_P8, limit_first, step_of_hypothesis}

-- ==== answers that hand a fault on

-- what holds of the fault that is handed on holds of the answer
pub handed : {X F : Type 0} {Gives : F → Type 0} (Q : F → Type 0) (r : Result X F)
    → IsErrAnd r Gives → ((f : F) → Gives f → Q f) → IfErr r Q
handed Q r is all =
    let p = err_from_is_err_and r is in subst (λ x. IfErr x Q) (sym p.1) (all p.0 p.2)

-- what holds of a fault's rule and step, in other words
pub on_rule_map : (e : ProofFault) (P Q : ProofRule → ℕ → Type 0) → ((rule : ProofRule) (step : ℕ) → P rule step → Q rule step) → OnRule e P → OnRule e Q
on_rule_map (Rule rule step) P Q f h = f rule step h
on_rule_map Memory P Q f h = tt

-- an answer whose fault is told in other words
pub rules_map : {X : Type 0} (r : Result X ProofFault) (P Q : ProofRule → ℕ → Type 0) → ((rule : ProofRule) (step : ℕ) → P rule step → Q rule step) → IfErr r (λ e. OnRule e P) → IfErr r (λ e. OnRule e Q)
rules_map r P Q f h = IfErr-weaker r _ _ (λ e. on_rule_map e P Q f) h

-- ==== the verdict on a proof is one: it is proved, or it has one first fault

-- ---- the first of the rules is one

abbrev pub ranked : List ProofRule
ranked = P1 ∷ P1 ∷ P2 ∷ P3 ∷ P4 ∷ P5 ∷ P15 ∷ P6 ∷ P7 ∷ P8 ∷ P9 ∷ P10 ∷ P11 ∷ P12 ∷ L1 ∷ P13 ∷ P14 ∷ []

pub at_rank : (rule : ProofRule) → slice_get ranked (proof_rank rule) ≡ Some rule
at_rank P1 = refl
at_rank rule = refl

-- two rules that are the first broken are one
pub first_once : (Broken : ProofRule → Type 0) (r q : ProofRule) → Broken r → Broken q → ((other : ProofRule) → proof_rank other < proof_rank r → ¬ (Broken other))
    → ((other : ProofRule) → proof_rank other < proof_rank q → ¬ (Broken other)) → r ≡ q
first_once Broken r q br bq fr fq = elim (cases_order (proof_rank r) (proof_rank q)) [
  | inl same ↦ same_Some r q (sym (at_rank r) ∙ ap (slice_get ranked) same ∙ at_rank q)
  | inr (inl less) ↦ absurd (fq r less br)
  | inr (inr more) ↦ absurd (fr q more bq)
]

-- ---- what is proved has no fault

-- what is right has no fault, and two faults are one
abbrev pub Exclude : (Right : Type 0) → (Fault : ProofRule → ℕ → Type 0) → Type 0
Exclude Right Fault = HasNoFault Right Fault × IsOneFault Fault

abbrev pub Same : ProofRule → ℕ → ProofRule → ℕ → Type 0
Same rule step rule' step' = (rule ≡ rule') × (step ≡ step')

end_rule : (rule : ProofRule) (stack : List (List (List ℕ))) (e : List (List ℕ)) → BreaksEnd rule stack e
    → ((rule ≡ P13) × (length stack ≢ 1)) ⊎ ((rule ≡ P14) × (length stack ≡ 1) × (stack ≢ e ∷ []))
end_rule P13 stack e b = inl (refl, b)
end_rule P14 stack e b = inr (refl, ap length b.1, λ same. b.2 (let p : b.0 ∷ [] ≡ e ∷ [] = sym b.1 ∙ same in cc))
end_rule rule stack e b = absurd b

module _ (Fits : List (List ℕ) → Type 0) (before : List Sentence) where
  pub proof_no_fault : (s : Sentence) (moves : List (Move (List ℕ))) (rule : ProofRule) (step : ℕ)
      → AllMeant before → Prove Fits before s moves → ¬ (IsMovesFault Fits before s moves rule step)
  proof_no_fault s moves rule step all p (inl f) =
      let whole = proof_passed Fits before s moves all p in
      no_fault_within Fits before f.earlier f.move f.later f.stack f.kept (s.symbols ∷ []) whole.0 rule all
      (subst (λ l. Passed Fits before l (s.symbols ∷ []) whole.0) f.parts whole.1) f.passed f.fault
  proof_no_fault s moves rule step all p (inr f) =
      let whole = proof_passed Fits before s moves all p in
      let one = (passed_once Fits Fits before moves f.stack (s.symbols ∷ []) f.kept whole.0 all f.passed whole.1).0 in
      ⊎_elim (λ p. p.1 (ap length one)) (λ q. q.2 one) (end_rule rule f.stack s.symbols f.broken)

  -- ---- two faults are one

  pub longer_passed : (earlier : List (Move (List ℕ))) (move : Move (List ℕ))
      (more longer : List (Move (List ℕ))) (stack kept last end : List (List (List ℕ)))
      (rule : ProofRule) → AllMeant before → longer ≡ earlier ++ move ∷ more
      → Passed Fits before longer last end → Passed Fits before earlier stack kept
      → FirstAtMove Fits rule before stack kept move → ⊥
  longer_passed earlier move more longer stack kept last end rule all parts whole passed fault =
      no_fault_within Fits before earlier move more stack kept last end rule all (subst (λ l. Passed Fits before l last end) parts whole) passed fault

  module _ (moves : List (Move (List ℕ))) (rule rule' : ProofRule) (step step' : ℕ)
      (all : AllMeant before) (f : IsMoveFault Fits before moves rule step)
      (g : IsMoveFault Fits before moves rule' step') where
    pub same_move : f.earlier ≡ g.earlier → f.move ≡ g.move → Same rule step rule' step'
    same_move a x =
        let one = passed_once Fits Fits before g.earlier f.stack g.stack f.kept g.kept all (subst (λ l. Passed Fits before l f.stack f.kept) a f.passed) g.passed in
        let fault = rw (one.0, one.1, x) at f.fault in (
          first_once (λ r. BreaksMove Fits r before g.stack g.kept g.move) rule rule' fault.broken g.fault.broken fault.first g.fault.first,
          f.number ∙ ap (λ l. steps_in l + 1) a ∙ sym g.number,
        )

    pub two_moves : Same rule step rule' step'
    two_moves = elim (two_cuts f.earlier f.move f.later g.earlier g.move g.later (sym f.parts ∙ g.parts)) [
      | inl same ↦ same_move same.0 same.1
      | inr (inl more) ↦ absurd (longer_passed f.earlier f.move more.0 g.earlier f.stack f.kept g.stack g.kept rule all more.1 g.passed f.passed f.fault)
      | inr (inr more) ↦ absurd (longer_passed g.earlier g.move more.0 f.earlier g.stack g.kept f.stack f.kept rule' all more.1 f.passed g.passed g.fault)
    ]

  module _ (s : Sentence) (moves : List (Move (List ℕ))) (rule rule' : ProofRule) (step step' : ℕ)
      (all : AllMeant before) where
    pub two_ends : IsEndFault Fits before s moves rule step → IsEndFault Fits before s moves rule' step'
        → Same rule step rule' step'
    two_ends f g =
        let stacks : f.stack ≡ g.stack = (passed_once Fits Fits before moves f.stack g.stack f.kept g.kept all f.passed g.passed).0 in
        let lengths : length f.stack ≡ length g.stack = ap length stacks in
        let one = end_rule rule f.stack s.symbols f.broken in
        let other = end_rule rule' g.stack s.symbols g.broken in
        (grind arith, f.number ∙ sym g.number)

    -- of the moves
    pub one_moves_fault : IsMovesFault Fits before s moves rule step
        → IsMovesFault Fits before s moves rule' step' → Same rule step rule' step'
    one_moves_fault (inl f) (inl g) = two_moves moves rule rule' step step' all f g
    one_moves_fault (inl f) (inr g) = absurd (longer_passed f.earlier f.move f.later moves f.stack f.kept g.stack g.kept rule all f.parts g.passed f.passed f.fault)
    one_moves_fault (inr f) (inl g) = absurd (longer_passed g.earlier g.move g.later moves g.stack g.kept f.stack f.kept rule' all g.parts f.passed g.passed g.fault)
    one_moves_fault (inr f) (inr g) = two_ends f g

  -- ---- so each row of moves has one verdict at most: as a proof, and as a prefix of one

  pub proof_excludes : (s : Sentence) (moves : List (Move (List ℕ))) → AllMeant before
      → Exclude (Prove Fits before s moves) (IsMovesFault Fits before s moves)
  proof_excludes s moves all = (
    λ p rule step f. proof_no_fault s moves rule step all p f,
    λ rule rule' step step' f g. one_moves_fault s moves rule rule' step step' all f g,
  )

  pub pass_excludes : (moves : List (Move (List ℕ))) → AllMeant before
      → Exclude (Pass Fits before moves) (IsMoveFault Fits before moves)
  pass_excludes moves all = (
    λ p rule step f. longer_passed f.earlier f.move f.later moves f.stack f.kept p.0 p.1 rule all
        f.parts p.2 f.passed f.fault,
    λ rule rule' step step' f g. two_moves moves rule rule' step step' all f g,
  )

-- ---- and so do tokens, where the moves that they say do

module _ (Good : List (Move (List ℕ)) → Type 0)
    (Faults : List (Move (List ℕ)) → ProofRule → ℕ → Type 0) (profile : Profile)
    (before : List Sentence) (s : Sentence) (tokens : List (List ℕ)) where
  -- they break no rule over the whole of them, have the form, and say moves that are good
  abbrev pub AreGood : Type 0
  AreGood =
      IsWhole before tokens × HasFormOf profile before s tokens
      × (moves : List (Move (List ℕ))) × SayMoves before s tokens moves × Good moves

  abbrev HaveFault : ProofRule → ℕ → Type 0
  HaveFault rule step = HaveFirstFault Faults profile before s tokens rule step

  no_text_fault : (rule : ProofRule) → IsWhole before tokens → HasFormOf profile before s tokens
      → ¬ (IsTextFault profile before s tokens rule)
  no_text_fault rule whole form (inl f) = whole rule f.broken
  no_text_fault rule whole form (inr f) = f.2 form

  one_text_fault : (rule rule' : ProofRule) → IsTextFault profile before s tokens rule
      → IsTextFault profile before s tokens rule' → rule ≡ rule'
  one_text_fault rule rule' (inl f) (inl g) =
      first_once (λ r. BreaksWhole r before tokens) rule rule' f.broken g.broken f.first g.first
  one_text_fault rule rule' (inl f) (inr g) = absurd (g.0 rule f.broken)
  one_text_fault rule rule' (inr f) (inl g) = absurd (f.0 rule' g.broken)
  one_text_fault rule rule' (inr f) (inr g) = f.1 ∙ sym g.1

  good_faultless : ((moves : List (Move (List ℕ))) → Exclude (Good moves) (Faults moves))
      → AreGood → (rule : ProofRule) (step : ℕ) → ¬ (HaveFault rule step)
  good_faultless each (whole, form, moves, said, good) rule step (inl f) =
      no_text_fault rule whole form f.1
  good_faultless each (whole, form, moves, said, good) rule step (inr (w, h, others, says, f)) =
      (each moves).0 good rule step
      (subst (λ m. Faults m rule step) (moves_once before s tokens others moves says said) f)

  one_fault : ((moves : List (Move (List ℕ))) → Exclude (Good moves) (Faults moves))
      → (rule rule' : ProofRule) (step step' : ℕ) → HaveFault rule step → HaveFault rule' step'
      → Same rule step rule' step'
  one_fault each rule rule' step step' (inl f) (inl g) =
      (one_text_fault rule rule' f.1 g.1, f.0 ∙ sym g.0)
  one_fault each rule rule' step step' (inl f) (inr g) = absurd (no_text_fault rule g.0 g.1 f.1)
  one_fault each rule rule' step step' (inr f) (inl g) = absurd (no_text_fault rule' f.0 f.1 g.1)
  one_fault each rule rule' step step' (inr f) (inr g) =
      let same = moves_once before s tokens f.2 g.2 f.3 g.3 in
      (each g.2).1 rule rule' step step' (subst (λ m. Faults m rule step) same f.4) g.4

  pub tokens_exclude : ((moves : List (Move (List ℕ))) → Exclude (Good moves) (Faults moves))
      → Exclude AreGood HaveFault
  tokens_exclude each = (good_faultless each, one_fault each)

-- ---- the laws

pub one_tree_holds : OneTree
one_tree_holds before t u es fs all d g same =
    (one_fit_holds before t u all (derive_fits AnyExpression before t es d) (derive_fits AnyExpression before u fs g) same, derived_once AnyExpression AnyExpression before t u es fs all d g same)

-- ==== each proof has a verdict: the rules that it breaks can be found, and where it breaks none it
-- is proved

-- ---- the first of the rules that are broken

pub record First (Broken : ProofRule → Type 0) : Type 0 where
  pub rule : ProofRule
  pub broken : Broken rule
  pub first : (other : ProofRule) → proof_rank other < proof_rank rule → ¬ (Broken other)

first_below : (Broken : ProofRule → Type 0) → ((rule : ProofRule) → Dec (Broken rule)) → (n : ℕ) → First Broken ⊎ ((rule : ProofRule) → proof_rank rule < n → ¬ (Broken rule))
first_below Broken each zero = inr (λ rule h. absurd (omega arith))
first_below Broken each (suc n) = elim (first_below Broken each n) [
  | inl f ↦ inl f
  | inr below ↦ elim (dec_some (λ i rule. (proof_rank rule ≡ n) × Broken rule)
      (λ i rule. dec_both (ℕ_discrete (proof_rank rule) n) (each rule)) ranked) [
        | yes b ↦
            let rank : proof_rank b.1 ≡ n = b.3.0 in
            inl (record { rule = b.1; broken = b.3.1; first = λ q less. below q (omega arith) })
        | no none ↦ inr (λ rule less broken. elim (cases_lt (proof_rank rule) n) [
          | inl l ↦ below rule l broken
          | inr m ↦ none (proof_rank rule, rule, at_rank rule, (omega arith, broken))
        ])
      ]
]

pub first_or_none : (Broken : ProofRule → Type 0) → ((rule : ProofRule) → Dec (Broken rule)) → First Broken ⊎ ((rule : ProofRule) → ¬ (Broken rule))
first_or_none Broken each = ⊎_elim (λ f. inl f) (λ none. inr (λ rule. none rule (slice_get_within ranked _ rule (at_rank rule)))) (first_below Broken each 17)

pub first_symbol_dec : (a b : Option (List ℕ)) → Dec (a ≡ b)
first_symbol_dec None None = yes refl
first_symbol_dec (Some a) (Some b) = dec_as (λ e. ap Some e) (λ e. same_Some a b e) (symbol_dec a b)
first_symbol_dec a b = no (λ e. absurd cc)

pair_dec : (hypotheses : List Sentence) (entries : List (List (List ℕ))) (P : Sentence → List (List ℕ) → Type 0) → ((h : Sentence) (entry : List (List ℕ)) → Dec (P h entry))
    → Dec (SomePair hypotheses entries P)
pair_dec hypotheses entries P each = dec_as (λ h. (h.0, h.1, h.3.0, h.2, h.3.1, h.3.2)) (λ h. (h.0, h.1, h.3, (h.2, h.4, h.5)))
    (dec_some (λ i h. (entry : List (List ℕ)) × (slice_get entries i ≡ Some entry) × P h entry) (λ i h. at i h (slice_get entries i) refl) hypotheses)
  where
    at : (i : ℕ) (h : Sentence) (o : Option (List (List ℕ))) → slice_get entries i ≡ o → Dec ((entry : List (List ℕ)) × (slice_get entries i ≡ Some entry) × P h entry)
    at i h None e = no (λ b. none-some b.0 (sym e ∙ b.1))
    at i h (Some entry) e = dec_as (λ p. (entry, e, p)) (λ b. subst (P h) (same_Some b.0 entry (sym b.1 ∙ e)) b.2) (each h entry)

-- the pair of what a step meets is one of what it meets otherwise
pair_moved : (before : List Sentence) (stack : List (List (List ℕ))) (label : List ℕ) (m n : MeetsHypotheses before stack label) (P : Sentence → List (List ℕ) → Type 0) → Agree before stack label m n
    → SomePair n.hypotheses n.entries P → SomePair m.hypotheses m.entries P
pair_moved before stack label m n P a x = (x.0, x.1, x.2, rw a.hypotheses x.3, rw a.entries x.4, x.5)

replaced_dec : (before : List Sentence) (stack : List (List (List ℕ))) (label : List ℕ) (m : MeetsHypotheses before stack label) (P : List (List ℕ) → List (List ℕ) → Type 0) → AllMeant before
    → ((e f : List (List ℕ)) → Dec (P e f)) → Dec (SomeReplacedPair before stack label P)
replaced_dec before stack label m P all each = dec_as (λ h. (m, h.0, h.1, h.3.0, h.3.1, h.2, h.3.2, h.3.3, h.3.4))
    (λ b.
    let a = agree before stack label all m b.0 in
    let pair = rw (← a.index, ← a.assertion) at b.5 in
    (b.1, b.2, pair, (b.3, b.4, a.replacement b.1 ∙ b.6, a.replacement b.2 ∙ b.7, b.8)))
    (some_pair_dec (take m.index before) m.assertion m.σ P each)

over_of : (Fits : List (List ℕ) → Type 0) (before : List Sentence) (stack : List (List (List ℕ))) (label : List ℕ) → AllMeant before → (m : MeetsHypotheses before stack label) → BreaksStep Fits L1 before stack label
    → ¬ (Fits (instance_of m.σ m.assertion.symbols))
over_of Fits before stack label all m (inl b) within =
    absurd (hypothesis_or_assertion before b.0 m.index b.1 m.assertion label all b.2 m.names.there b.4.0 m.names.named b.4.1 m.names.kind)
over_of Fits before stack label all m (inr b) within =
    let a = agree before stack label all m b.0 in
    let same : instance_of m.σ m.assertion.symbols ≡ instance_of b.0.σ b.0.assertion.symbols =
    same_substituted m.σ b.0.σ m.assertion.symbols a.replacement ∙ ap (λ (t : Sentence). instance_of b.0.σ t.symbols) a.assertion in
    b.1 (subst (λ l. Fits l) same within)

-- at a step that meets its hypotheses
meets_dec : (Fits : List (List ℕ) → Type 0) (each : (e : List (List ℕ)) → Dec (Fits e)) (before : List Sentence) (stack : List (List (List ℕ))) (label : List ℕ) → AllMeant before → MeetsHypotheses before stack label → (rule : ProofRule) → Dec (BreaksStep Fits rule before stack label)
meets_dec Fits each before stack label all m P8 = no (meets_enough Fits before stack label all m)
meets_dec Fits each before stack label all m P9 = dec_as (λ x. (m, x)) (λ b. pair_moved before stack label m b.0 (λ h entry. (h.kind ≡ Floating) × (slice_get entry 0 ≢ slice_get h.symbols 0)) (agree before stack label all m b.0) b.1)
    (pair_dec m.hypotheses m.entries (λ h entry. (h.kind ≡ Floating) × (slice_get entry 0 ≢ slice_get h.symbols 0))
    (λ h entry. dec_both (kind_dec h.kind Floating) (dec_not (first_symbol_dec (slice_get entry 0) (slice_get h.symbols 0)))))
meets_dec Fits each before stack label all m P10 = dec_as (λ x. (m, x))
    (λ b. let a = agree before stack label all m b.0 in
    let x = pair_moved before stack label m b.0 (λ h entry. (h.kind ≡ Essential) × (entry ≢ instance_of b.0.σ h.symbols)) a b.1 in
    (x.0, x.1, x.2, x.3, x.4, (x.5.0, λ e. x.5.1 (e ∙ same_substituted m.σ b.0.σ x.1.symbols a.replacement))))
    (pair_dec m.hypotheses m.entries (λ h entry. (h.kind ≡ Essential) × (entry ≢ instance_of m.σ h.symbols))
    (λ h entry. dec_both (kind_dec h.kind Essential) (dec_not (expression_dec entry (instance_of m.σ h.symbols)))))
meets_dec Fits each before stack label all m P11 = replaced_dec before stack label m (λ e f. ¬ (ShareNoVariable before e f)) all (λ e f. dec_not (share_dec before e f))
meets_dec Fits each before stack label all m P12 = replaced_dec before stack label m (λ e f. ¬ (AreDistinct before e f)) all (λ e f. dec_not (apart_dec before e f))
meets_dec Fits each before stack label all m L1 = dec_as (λ over. inr (m, over)) (over_of Fits before stack label all m) (dec_not (each (instance_of m.σ m.assertion.symbols)))
meets_dec Fits each before stack label all m rule = no (λ b. b)

-- ---- a step that breaks no rule

-- the step that meets its hypotheses and breaks no rule
step_of : (Fits : List (List ℕ) → Type 0) (before : List Sentence) (stack : List (List (List ℕ))) (label : List ℕ) (m : MeetsHypotheses before stack label) → ((rule : ProofRule) → ¬ (BreaksStep Fits rule before stack label))
    → StepTo before stack label m.rest (instance_of m.σ m.assertion.symbols)
step_of Fits before stack label m none = inr (record {
  meets = m;
  kept = refl;
  typed = λ i h entry there at floating.
      unless_not (first_symbol_dec (slice_get entry 0) (slice_get h.symbols 0)) (λ differ. none P9 (m, (i, h, entry, there, at, (floating, differ))));
  equal = λ i h entry there at essential.
      unless_not (expression_dec entry (instance_of m.σ h.symbols)) (λ differ. none P10 (m, (i, h, entry, there, at, (essential, differ))));
  apart = λ x y e f pair at_x at_y. (
    unless_not (share_dec before e f) (λ share. none P11 (m, x, y, e, f, pair, at_x, at_y, share)),
    unless_not (apart_dec before e f) (λ near. none P12 (m, x, y, e, f, pair, at_x, at_y, near)),
  );
  made = refl;
})

-- what a step does: it goes on within the limit, or it breaks a rule first
abbrev Outcome : (List (List ℕ) → Type 0) → List Sentence → List (List (List ℕ)) → List ℕ → Type 0
Outcome Fits before stack label = ((rest : List (List (List ℕ))) × (e : List (List ℕ)) × StepTo before stack label rest e × Fits e) ⊎ ((rule : ProofRule) × FirstAtStep Fits rule before stack label)

made_outcome : (Fits : List (List ℕ) → Type 0) (each : (e : List (List ℕ)) → Dec (Fits e)) (before : List Sentence) (stack : List (List (List ℕ))) (label : List ℕ) (rest : List (List (List ℕ))) (e : List (List ℕ)) → AllMeant before
    → StepTo before stack label rest e → Outcome Fits before stack label
made_outcome Fits each before stack label rest e all step = elim (each e) [
  | yes within ↦ inl (rest, e, step, within)
  | no over ↦ inr (L1, limit_first Fits before stack label rest e all over step)
]

module _ (Fits : List (List ℕ) → Type 0) (each : (e : List (List ℕ)) → Dec (Fits e))
    (before : List Sentence) (stack : List (List (List ℕ))) (label : List ℕ) where
  named_outcome : (index : ℕ) (assertion : Sentence) (hypotheses : List Sentence) → AllMeant before
      → Names before label index assertion hypotheses → Outcome Fits before stack label
  named_outcome index assertion hypotheses all names = elim (cases_lt (length stack) (length hypotheses)) [
    | inl short ↦ inr (P8, ((index, assertion, hypotheses, names, short), below_P8 Fits before stack label))
    | inr enough ↦
        let n : ℕ = length stack - length hypotheses in
        let long : length (drop n stack) ≡ length hypotheses = omega (arith, length-drop n stack) in
        let m = meets_of before stack label index assertion hypotheses (take n stack) (drop n stack) all names (sym (take-append-drop n stack)) long in
        ⊎_elim (λ f. inr (f.rule, (f.broken, f.first)))
        (λ none. made_outcome Fits each before stack label m.rest (instance_of m.σ m.assertion.symbols) all (step_of Fits before stack label m none))
        (first_or_none (λ rule. BreaksStep Fits rule before stack label) (meets_dec Fits each before stack label all m))
  ]

  label_outcome : AllMeant before → IsUsable before label → Outcome Fits before stack label
  label_outcome all (inl h) =
      made_outcome Fits each before stack label stack h.1.symbols all
      (step_of_hypothesis before stack label h.0 h.1 h.2 h.3 h.4.0 h.4.1)
  label_outcome all (inr a) =
      let frame : (hypotheses : List Sentence) × AreMandatory (take a.0 before) a.1 hypotheses =
      those_of (IsMandatoryAt (take a.0 before) a.1) (mandatory_at_dec (take a.0 before) a.1) 0 (take a.0 before) in
      named_outcome a.0 a.1 frame.0 all (record { there = a.2; named = a.3.0; kind = a.3.1; mandatory = frame.1 })

-- ---- the moves

-- the last entry of a stack
pub last_entry : (stack : List (List (List ℕ))) → (stack ≡ []) ⊎ ((rest : List (List (List ℕ))) × (e : List (List ℕ)) × (stack ≡ rest ++ e ∷ []))
last_entry [] = inl refl
last_entry (x ∷ []) = inr ([], x, refl)
last_entry (x ∷ y ∷ stack) = ⊎_elim (λ e. absurd (let p : y ∷ stack ≡ [] = e in cc)) (λ l. inr (x ∷ l.0, l.1, ap (λ s. x ∷ s) l.2)) (last_entry (y ∷ stack))

pub only_P6 : (Fits : List (List ℕ) → Type 0) (before : List Sentence) (stack kept : List (List (List ℕ))) (tag : ℕ) (other : ProofRule) → proof_rank other < proof_rank P6 → ¬ (BreaksMove Fits other before stack kept (again tag))
only_P6 Fits before stack kept tag other less b = absurd (lt_irrefl (proof_rank P6) (subst (λ r. proof_rank r < proof_rank P6) b.0 less))

pub only_P7 : (Fits : List (List ℕ) → Type 0) (before : List Sentence) (stack kept : List (List (List ℕ))) (other : ProofRule) → proof_rank other < proof_rank P7 → ¬ (BreaksMove Fits other before stack kept mark)
only_P7 Fits before stack kept other less b = absurd (lt_irrefl (proof_rank P7) (subst (λ r. proof_rank r < proof_rank P7) b.0 less))

-- what a move does: it passes, or it breaks a rule first
move_outcome : (Fits : List (List ℕ) → Type 0) (each : (e : List (List ℕ)) → Dec (Fits e)) (before : List Sentence) (earlier : List (Move (List ℕ))) (stack kept : List (List (List ℕ))) (move : Move (List ℕ))
    → AllMeant before → IsUsableMove before move → Passed Fits before earlier stack kept
    → ((stack' : List (List (List ℕ))) × (kept' : List (List (List ℕ)))
    × Passed Fits before (earlier ++ move ∷ []) stack' kept')
    ⊎ ((rule : ProofRule) × FirstAtMove Fits rule before stack kept move)
move_outcome Fits each before earlier stack kept (name label) all usable passed = ⊎_elim
    (λ o. inl (o.0 ++ o.1 ∷ [], kept, passed_name Fits before earlier stack kept label o.0 o.1 all passed o.2 o.3))
    (λ f. inr (f.0, record { broken = f.1.0; first = f.1.1 })) (label_outcome Fits each before stack label all usable)
move_outcome Fits each before earlier stack kept (again tag) all usable passed = elim (cases_lt tag (length kept)) [
  | inl less ↦ inl (stack ++ get_or kept tag [] ∷ [], kept, passed_again Fits before earlier stack kept tag (get_or kept tag []) passed (slice_get-get_or kept tag [] less))
  | inr over ↦ inr (P6, record { broken = (refl, over); first = only_P6 Fits before stack kept tag })
]
move_outcome Fits each before earlier stack kept mark all usable passed = ⊎_elim
    (λ none. inr (P7, record { broken = (refl, none); first = only_P7 Fits before stack kept }))
    (λ l. inl (l.0 ++ l.1 ∷ [], kept ++ l.1 ∷ [], passed_mark Fits before earlier l.0 kept l.1 (subst (λ s. Passed Fits before earlier s kept) l.2 passed))) (last_entry stack)

abbrev pub MovesVerdict : (List (List ℕ) → Type 0) → List Sentence → Sentence → List (Move (List ℕ)) → Type 0
MovesVerdict Fits before s moves = Prove Fits before s moves ⊎ ((rule : ProofRule) × (step : ℕ) × IsMovesFault Fits before s moves rule step)

not_one : (stack : List (List (List ℕ))) → length stack ≢ 1 ⊎ ((entry : List (List ℕ)) × (stack ≡ entry ∷ []))
not_one (entry ∷ []) = inr (entry, refl)
not_one stack = inl (λ e. absurd (omega arith))

end_verdict : (Fits : List (List ℕ) → Type 0) (before : List Sentence) (s : Sentence) (moves : List (Move (List ℕ))) (stack kept : List (List (List ℕ)))
    → Passed Fits before moves stack kept → MovesVerdict Fits before s moves
end_verdict Fits before s moves stack kept passed = ⊎_elim
    (λ n. inr (P13, steps_in moves + 1, inr (record { stack = stack; kept = kept; passed = passed; number = refl; broken = n })))
    (λ one. last one.0 one.1 (expression_dec one.0 s.symbols)) (not_one stack)
  where
    last : (entry : List (List ℕ)) → stack ≡ entry ∷ [] → Dec (entry ≡ s.symbols) → MovesVerdict Fits before s moves
    last entry e (yes same) = inl (prove_at_end Fits before s moves kept (subst (λ l. Passed Fits before moves l kept) (e ∙ ap (λ x. x ∷ []) same) passed))
    last entry e (no differ) = inr (P14, steps_in moves + 1, inr (record { stack = stack; kept = kept; passed = passed; number = refl; broken = (entry, e, differ) }))

module _ (Fits : List (List ℕ) → Type 0) (each : (e : List (List ℕ)) → Dec (Fits e))
    (before : List Sentence) (s : Sentence) (moves : List (Move (List ℕ))) where
  later_verdict : (later earlier : List (Move (List ℕ))) (stack kept : List (List (List ℕ)))
      → AllMeant before → AllByRecursion (IsUsableMove before) later → moves ≡ earlier ++ later
      → Passed Fits before earlier stack kept → MovesVerdict Fits before s moves
  later_verdict [] earlier stack kept all usable parts passed =
      end_verdict Fits before s moves stack kept (subst (λ l. Passed Fits before l stack kept) (sym (parts ∙ append-nil earlier)) passed)
  later_verdict (move ∷ later) earlier stack kept all usable parts passed = ⊎_elim
      (λ o. later_verdict later (earlier ++ move ∷ []) o.0 o.1 all usable.1 (parts ∙ sym (append_assoc earlier (move ∷ []) later)) o.2)
      (λ f. inr (
        f.0,
        steps_in earlier + 1,
        inl (record { earlier = earlier; move = move; later = later; parts = parts; number = refl; stack = stack; kept = kept; passed = passed; fault = f.1 }),
      ))
      (move_outcome Fits each before earlier stack kept move all usable.0 passed)

  -- moves by labels that may be used prove the statement, or have a fault
  pub moves_verdict : AllMeant before → AllByRecursion (IsUsableMove before) moves
      → MovesVerdict Fits before s moves
  moves_verdict all usable = later_verdict moves [] [] [] all usable refl (passed_none Fits before)

pub within_dec : (limit : ℕ) (e : List (List ℕ)) → Dec (IsWithin limit e)
within_dec limit e = elim (cases_lt limit (length e)) [ inl over ↦ no (λ within. absurd (omega arith)) | inr within ↦ yes within ]

-- ---- the faults

pub end_fault : (Fits : List (List ℕ) → Type 0) (before : List Sentence) (s : Sentence) (moves : List (Move (List ℕ))) (stack kept : List (List (List ℕ))) (rule : ProofRule) (step : ℕ)
    → Passed Fits before moves stack kept → BreaksEnd rule stack s.symbols → step ≡ steps_in moves + 1 → IsMovesFault Fits before s moves rule step
end_fault Fits before s moves stack kept rule step passed broken number =
    inr (record { stack = stack; kept = kept; passed = passed; number = number; broken = broken })

-- ---- counting steps

pub steps_in-append : {X : Type 0} (moves more : List (Move X)) → steps_in (moves ++ more) ≡ steps_in moves + steps_in more
steps_in-append moves more = sum_by-append (λ m. cond (is_step m) 1 0) moves more

-- ==== where the right and the faults exclude each other, one answer is left, unless memory is
-- refused

module _ (Right : Type 0) (Fault : ProofRule → ℕ → Type 0) (apart : Exclude Right Fault) where
  -- what is right is accepted
  pub accepts : {X : Type 0} (r : Result X ProofFault) → IfErr r (λ e. OnRule e Fault) → Right
      → IsOkUnless r Memory
  accepts (Ok x) f right = tt
  accepts (Err Memory) f right = refl
  accepts (Err (Rule rule step)) f right = absurd (apart.0 right rule step f)

  -- what has a fault is refused with it
  pub refuses : {X : Type 0} (r : Result X ProofFault) → OnOk r Right
      → IfErr r (λ e. OnRule e Fault) → (rule : ProofRule) (step : ℕ) → Fault rule step
      → IsUnlessMemory r (Err (Rule rule step))
  refuses (Ok x) right f rule step fault = absurd (apart.0 right rule step fault)
  refuses (Err Memory) right f rule step fault = inr refl
  refuses (Err (Rule other at)) right f rule step fault =
      let same = apart.1 other rule at step f fault in inl (rw (same.0, same.1) refl)
