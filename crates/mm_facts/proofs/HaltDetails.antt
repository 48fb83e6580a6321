-- The facts of the place where the moves of a proof stop, and their text.
use Rattle.std.proofs.Common.{◌≡◌, ◌≢◌, ℕ, zero, suc, ◌+◌, ◌<◌, ◌≤◌, List, [], ◌∷◌, ◌++◌, length, take, map}
use Rattle.std.proofs.Common.{get_or, slice_get, Bool, Option, Some, refl, ap, sym, subst}
use Rattle.std.proofs.Common.{◌∙◌, append_assoc, append-nil, arith, unwrap_or}
use Rattle.std.specs.List.{AllByRecursion}
use Rattle.std.proofs.lemmas.List.{take_all}
use Rattle.std.proofs.lemmas.Option.{same_Some, slice_get-map, slice_get_read}
use Rattle.std.specs.Global.{Vec}
use Rattle.std.specs.Prelude.{option_map}
use Rattle.std.proofs.lemmas.List.{length-map}
use Rattle.mm_frame.specs.Sentence.{Sentence, IsLabelled}
use Rattle.mm_frame.specs.Numbers.{symbols_of, AreNumbers, labelled_sentences}
use Rattle.mm_step.specs.declared.fault.ProofRule.{ProofRule}
use Rattle.mm_step.specs.declared.fault.ProofRule.TheVariants.{P8, P9, P10, P11, P12, P14, L1}
use Rattle.mm_listing.specs.declared.halt.Halt.{Halt}
use Rattle.mm_listing.specs.declared.halt.HaltAt.TheVariants as at
use Rattle.mm_step.specs.Substitution.{Expression}
use Rattle.mm_step.specs.Moves.{Move, name, again, mark}
use Rattle.mm_listing.specs.Halted.{HaltsProof, TellsEntry, StandsAtHalt, StopsWith}
use Rattle.mm_listing.specs.declared.halt.HaltAt.{HaltAt}
use Rattle.mm_step.specs.Proof.{IsWithin}
use Rattle.mm_rules.specs.Answer.{labels_at}
use Rattle.mm_facts.specs.Explained.{Detail, entry_given, detail_text, details_text, entries_given}
use Rattle.mm_facts.specs.Explained.{AreEndDetails, end_given, hypotheses_stated, hypothesis_stated}
use Rattle.mm_facts.specs.Explained.{entry_counts, AreStepDetails, step_label}
use Rattle.std.proofs.Common.{length-append, cond}
use Rattle.std.proofs.lemmas.List.Sums.{sum_by-cons}
use Rattle.std.proofs.lemmas.Grind.{flat_map-append}
use Rattle.mm_base.proofs.Lists.{zip_length}
use Rattle.mm_frame.specs.Sentence.{IsAssertion}
use Rattle.mm_frame.specs.Rules.{AllMeant}
use Rattle.mm_frame.specs.Numbers.{IsNumbered}
use Rattle.mm_frame.specs.Frame.{AreMandatory}
use Rattle.mm_frame.specs.FrameIndex.{AreHypotheses}
use Rattle.mm_step.proofs.ProofSteps.OneStep.{one_label}
use Rattle.mm_base.proofs.Lists.{get_from_take}
use Rattle.mm_step.specs.Tree.{Trees, none, tree, Names, DeriveAll}
use Rattle.mm_step.specs.Moves.{Makes, steps_in, is_step}
use Rattle.mm_step.specs.Proof.{BreaksStep}
use Rattle.mm_step.proofs.ByNumbers.StepByAssertion.{label_of, names_of}
use Rattle.mm_frame.specs.declared.hypothesis.Hypothesis.{Hypothesis}
use Rattle.mm_frame.specs.declared.number.LabelId.{LabelId}
use Rattle.mm_step.specs.Mirror.CodeVerify.{AreHypothesesOf}
use Rattle.mm_step.specs.Steps.{IsNumberedMove}
use Rattle.mm_facts.specs.Mirror.Explaining.{HaltFacts, AddsAtHalt, told_steps}
use Rattle.mm_facts.specs.declared.named_halt.NamedHalt.{NamedHalt}
use Rattle.mm_rules.proofs.Numbers.{names_at, numbers_within}

-- ---- what tells steps

-- there is one for each entry
pub count_steps : (stop : NamedHalt) → length (told_steps stop) ≡ length stop.halt.origins.items
count_steps stop = length-map stop.texts.items (λ t. t.items) ∙ stop.each

-- the one at an index
pub step_there : (stop : NamedHalt) (k : ℕ) (d : Vec ℕ) (text : List ℕ)
    → k < length stop.halt.origins.items → d ≡ get_or stop.texts.items k d → text ≡ d.items
    → slice_get (told_steps stop) k ≡ Some text
step_there stop k d text less is same =
    let each = stop.each in
    slice_get-map (λ t. t.items) stop.texts.items k
    ∙ ap (option_map (λ t. t.items)) (slice_get_read stop.texts.items (length stop.texts.items) k d refl (omega arith) is)
    ∙ ap Some (sym same)

-- ---- entries of the stack

-- one entry more
one_more : (steps : List (List ℕ)) (stack : List Expression) (k : ℕ) (step : List ℕ) (e : Expression)
    → slice_get steps k ≡ Some step → slice_get stack k ≡ Some e
    → details_text (entries_given (take (suc k) steps) (take (suc k) stack))
    ≡ details_text (entries_given (take k steps) (take k stack)) ++ detail_text (entry_given step e)
one_more [] stack k step e p q = absurd cc
one_more (m ∷ steps) [] k step e p q = absurd cc
one_more (m ∷ steps) (f ∷ stack) zero step e p q =
    append-nil (detail_text (entry_given m f))
    ∙ ap (λ (n : List ℕ). detail_text (entry_given n f)) (same_Some m step p)
    ∙ ap (λ (g : Expression). detail_text (entry_given step g)) (same_Some f e q)
one_more (m ∷ steps) (f ∷ stack) (suc k) step e p q =
    ap (λ (text : List ℕ). detail_text (entry_given m f) ++ text) (one_more steps stack k step e p q)
    ∙ sym (append_assoc (detail_text (entry_given m f))
    (details_text (entries_given (take k steps) (take k stack))) (detail_text (entry_given step e)))

-- an entry is told by its numbers, and by what tells its step
pub entry_told : (limit : ℕ) (st before : List Sentence) (s : Sentence) (prefix : Bool)
    (moves : List (Move (List ℕ))) (halt : Halt) (h : HaltsProof limit st before s prefix moves halt)
    (steps : List (List ℕ)) (k : ℕ) (step numbers o₀ o₁ o₂ : List ℕ) → TellsEntry halt k numbers
    → slice_get steps k ≡ Some step
    → o₁ ≡ o₀ ++ details_text (entries_given (take k steps) (take k h.there.stack))
    → o₂ ≡ o₁ ++ detail_text (entry_given step (labels_at (symbols_of st) numbers))
    → o₂ ≡ o₀ ++ details_text (entries_given (take (k + 1) steps) (take (k + 1) h.there.stack))
entry_told limit st before s prefix moves halt h steps k step numbers o₀ o₁ o₂ tells there h₁ h₂ =
    let entry = tells limit st before s prefix moves h in
    let named : labels_at (symbols_of st) numbers ≡ entry.0 = names_at (symbols_of st) numbers entry.0 entry.2 in
    let next : k + 1 ≡ suc k = omega arith in
    h₂ ∙ ap (λ (e : Expression). o₁ ++ detail_text (entry_given step e)) named
    ∙ ap (λ (text : List ℕ). text ++ detail_text (entry_given step entry.0)) h₁
    ∙ append_assoc o₀ (details_text (entries_given (take k steps) (take k h.there.stack))) (detail_text (entry_given step entry.0))
    ∙ ap (λ (text : List ℕ). o₀ ++ text) (sym (one_more steps h.there.stack k step entry.0 there entry.1))
    ∙ ap (λ (n : ℕ). o₀ ++ details_text (entries_given (take n steps) (take n h.there.stack))) (sym next)

-- its numbers are those of symbols
pub entry_within : (limit : ℕ) (st before : List Sentence) (s : Sentence) (prefix : Bool)
    (moves : List (Move (List ℕ))) (halt : Halt) (k : ℕ) (numbers : List ℕ)
    → HaltsProof limit st before s prefix moves halt → TellsEntry halt k numbers
    → AllByRecursion (λ n. n < length (symbols_of st)) numbers
entry_within limit st before s prefix moves halt k numbers h tells =
    let entry = tells limit st before s prefix moves h in
    numbers_within (symbols_of st) numbers entry.0 entry.2

-- all entries
pub all_entries : (limit : ℕ) (st before : List Sentence) (s : Sentence) (prefix : Bool)
    (moves : List (Move (List ℕ))) (halt : Halt) (h : HaltsProof limit st before s prefix moves halt)
    (steps : List (List ℕ)) (k : ℕ) (o₀ o₁ : List ℕ) → length steps ≡ length halt.origins.items
    → length halt.origins.items ≤ k
    → o₁ ≡ o₀ ++ details_text (entries_given (take k steps) (take k h.there.stack))
    → o₁ ≡ o₀ ++ details_text (entries_given steps h.there.stack)
all_entries limit st before s prefix moves halt h steps k o₀ o₁ each all told =
    let count = h.there.made.count in
    let origins : length h.there.origins ≤ k = subst (λ (ms : List ℕ). length ms ≤ k) h.same_origins all in
    told
    ∙ ap (λ (ms : List (List ℕ)). o₀ ++ details_text (entries_given ms (take k h.there.stack))) (take_all k steps (omega arith))
    ∙ ap (λ (es : List Expression). o₀ ++ details_text (entries_given steps es)) (take_all k h.there.stack (omega arith))

-- ---- the end

-- nothing is left where the end stands
pub none_left : (st : List Sentence) (left : List (Move (List ℕ))) (a : HaltAt) → a ≡ at.End
    → StandsAtHalt st left a → left ≡ []
none_left st [] a e h = refl
none_left st (m ∷ more) a e h = absurd (go m (subst (StandsAtHalt st (m ∷ more)) e h))
  where
    go : (m : Move (List ℕ)) → StandsAtHalt st (m ∷ more) at.End → ⊥
    go (name label) h = h
    go (again tag) h = h
    go mark h = h

single : (ms : List (List ℕ)) → length ms ≡ 1 → (m : List ℕ) × (ms ≡ m ∷ [])
single [] e = absurd (omega arith)
single (m ∷ []) e = (m, refl)
single (m ∷ n ∷ ms) e = absurd (omega arith)

-- one entry is left that isn't the statement's
pub record LeavesOne (stack : List Expression) (steps : List (List ℕ)) : Type 0 where
  pub given : Expression
  pub step : List ℕ
  pub entry : stack ≡ given ∷ []
  pub origin : steps ≡ step ∷ []

pub leaves_one : (limit : ℕ) (st before : List Sentence) (s : Sentence) (prefix : Bool)
    (moves : List (Move (List ℕ))) (halt : Halt) (h : HaltsProof limit st before s prefix moves halt)
    (steps : List (List ℕ)) → length steps ≡ length halt.origins.items
    → halt.at ≡ at.End → halt.rule ≡ Some P14 → LeavesOne h.there.stack steps
leaves_one limit st before s prefix moves halt h steps each end rule =
    let Stops : List (Move (List ℕ)) → Option ProofRule → Type 0 =
    λ left r. StopsWith (IsWithin limit) before s prefix h.there.stack h.there.kept left r in
    let left : h.there.left ≡ [] = none_left st h.there.left halt.at end h.place in
    let broken : Stops [] (Some P14) = subst (λ (r : Option ProofRule). Stops [] r) rule (subst (λ (l : List (Move (List ℕ))). Stops l halt.rule) left h.there.stops) in
    let origin = single steps (each ∙ ap length h.same_origins ∙ h.there.made.count ∙ ap length broken.1.1) in
    record { given = broken.1.0; step = origin.0; entry = broken.1.1; origin = origin.1 }

-- what is stated, and what is left
pub end_told : (limit : ℕ) (st before : List Sentence) (s : Sentence) (prefix : Bool)
    (moves : List (Move (List ℕ))) (halt : Halt) (h : HaltsProof limit st before s prefix moves halt)
    (steps : List (List ℕ)) → length steps ≡ length halt.origins.items
    → (step stated numbers o₀ o₁ : List ℕ) (r : ProofRule) → r ≡ P14 → halt.at ≡ at.End → halt.rule ≡ Some r
    → AreNumbers st stated s.symbols → TellsEntry halt 0 numbers
    → slice_get steps 0 ≡ Some step
    → o₁ ≡ o₀ ++ detail_text (end_given (labels_at (symbols_of st) stated) step (labels_at (symbols_of st) numbers))
    → (details : List Detail) × AreEndDetails s h.there.stack steps r details
    × (o₁ ≡ o₀ ++ details_text details)
end_told limit st before s prefix moves halt h steps each step stated numbers o₀ o₁ r is end rule are tells there told =
    let one = leaves_one limit st before s prefix moves halt h steps each end (rule ∙ ap Some is) in
    let entry = tells limit st before s prefix moves h in
    let expression : labels_at (symbols_of st) stated ≡ s.symbols = names_at (symbols_of st) stated s.symbols are in
    let given : labels_at (symbols_of st) numbers ≡ one.given =
    names_at (symbols_of st) numbers entry.0 entry.2
    ∙ same_Some entry.0 one.given (sym entry.1 ∙ ap (λ (es : List Expression). slice_get es 0) one.entry) in
    let its : step ≡ one.step =
    same_Some step one.step (sym there ∙ ap (λ (ms : List (List ℕ)). slice_get ms 0) one.origin) in (
      end_given s.symbols one.step one.given ∷ [],
      subst (λ (q : ProofRule). AreEndDetails s h.there.stack steps q (end_given s.symbols one.step one.given ∷ [])) (sym is)
          (one.given, one.step, one.entry, one.origin, refl),
      told ∙ ap (λ (e : Expression). o₀ ++ detail_text (end_given e step (labels_at (symbols_of st) numbers))) expression
          ∙ ap (λ (e : Expression). o₀ ++ detail_text (end_given s.symbols step e)) given
          ∙ ap (λ (n : List ℕ). o₀ ++ detail_text (end_given s.symbols n one.given)) its
          ∙ ap (λ (text : List ℕ). o₀ ++ text) (sym (append-nil (detail_text (end_given s.symbols one.step one.given)))),
    )

-- by any other rule the entries are told
pub end_other : (s : Sentence) (stack : List Expression) (steps : List (List ℕ)) (rule : ProofRule)
    (details : List Detail) → rule ≢ P14 → details ≡ entries_given steps stack
    → AreEndDetails s stack steps rule details
end_other s stack steps P14 details other e = absurd (other refl)
end_other s stack steps _ details other e = e

-- facts are told, and so these
pub adds_as : (limit : ℕ) (st : List Sentence) (id : ℕ) (stop : NamedHalt) (P Q : HaltFacts)
    (old new : List ℕ)
    → ((before : List Sentence) (s : Sentence) (stack kept : List Expression) (steps : List (List ℕ))
    (left : List (Move (List ℕ))) (details : List Detail)
    → P before s stack kept steps left details → Q before s stack kept steps left details)
    → AddsAtHalt limit st id stop P old new → AddsAtHalt limit st id stop Q old new
adds_as limit st id stop P Q old new f told index s prefix moves number h =
    let found = told index s prefix moves number h in
    (found.0, f (take index st) s h.there.stack h.there.kept (told_steps stop) h.there.left found.0 found.1, found.2)

-- ---- hypotheses

-- one hypothesis more
one_stated : (hs : List Sentence) (k : ℕ) (h : Sentence) → slice_get hs k ≡ Some h
    → details_text (hypotheses_stated (take (suc k) hs))
    ≡ details_text (hypotheses_stated (take k hs)) ++ detail_text (hypothesis_stated (unwrap_or h.label []) h.symbols)
one_stated [] k h e = absurd cc
one_stated (g ∷ hs) zero h e =
    append-nil (detail_text (hypothesis_stated (unwrap_or g.label []) g.symbols))
    ∙ ap (λ (s : Sentence). detail_text (hypothesis_stated (unwrap_or s.label []) s.symbols)) (same_Some g h e)
one_stated (g ∷ hs) (suc k) h e =
    ap (λ (text : List ℕ). detail_text (hypothesis_stated (unwrap_or g.label []) g.symbols) ++ text) (one_stated hs k h e)
    ∙ sym (append_assoc (detail_text (hypothesis_stated (unwrap_or g.label []) g.symbols))
    (details_text (hypotheses_stated (take k hs))) (detail_text (hypothesis_stated (unwrap_or h.label []) h.symbols)))

-- the hypothesis with the number at an index
pub hypothesis_there : (st : List Sentence) (xs : List Hypothesis) (hs : List Sentence) (k : ℕ)
    (d : Hypothesis) → AreHypothesesOf st (map (λ h. h.id.0) xs) hs → k < length xs
    → (h : Sentence) × (slice_get hs k ≡ Some h)
    × (slice_get (labelled_sentences st) (get_or xs k d).id.0 ≡ Some h)
hypothesis_there st [] hs k d are less = absurd (omega arith)
hypothesis_there st (x ∷ xs) [] k d are less = absurd cc
hypothesis_there st (x ∷ xs) (h ∷ hs) zero d are less = (h, refl, cc)
hypothesis_there st (x ∷ xs) (h ∷ hs) (suc k) d are less = hypothesis_there st xs hs k d (cc) (omega arith)

pub hypothesis_told : (st : List Sentence) (hs : List Sentence) (k : ℕ) (h : Sentence)
    (label numbers o₀ o₁ o₂ : List ℕ) → slice_get hs k ≡ Some h → IsLabelled label h
    → AreNumbers st numbers h.symbols → o₁ ≡ o₀ ++ details_text (hypotheses_stated (take k hs))
    → o₂ ≡ o₁ ++ detail_text (hypothesis_stated label (labels_at (symbols_of st) numbers))
    → o₂ ≡ o₀ ++ details_text (hypotheses_stated (take (k + 1) hs))
hypothesis_told st hs k h label numbers o₀ o₁ o₂ there labelled are h₁ h₂ =
    let named : labels_at (symbols_of st) numbers ≡ h.symbols = names_at (symbols_of st) numbers h.symbols are in
    let its : label ≡ unwrap_or h.label [] = ap (λ (o : Option (List ℕ)). unwrap_or o []) (sym labelled) in
    let next : k + 1 ≡ suc k = omega arith in
    let last : List ℕ = detail_text (hypothesis_stated (unwrap_or h.label []) h.symbols) in
    h₂ ∙ ap (λ (e : Expression). o₁ ++ detail_text (hypothesis_stated label e)) named
    ∙ ap (λ (l : List ℕ). o₁ ++ detail_text (hypothesis_stated l h.symbols)) its
    ∙ ap (λ (text : List ℕ). text ++ last) h₁
    ∙ append_assoc o₀ (details_text (hypotheses_stated (take k hs))) last
    ∙ ap (λ (text : List ℕ). o₀ ++ text) (sym (one_stated hs k h there))
    ∙ ap (λ (n : ℕ). o₀ ++ details_text (hypotheses_stated (take n hs))) (sym next)

-- ---- the step by a label

-- a step is left where its label stands
pub record StepLeft (st : List Sentence) (left : List (Move (List ℕ))) (id : ℕ) : Type 0 where
  pub label : List ℕ
  pub more : List (Move (List ℕ))
  pub first : left ≡ name label ∷ more
  pub numbered : IsNumberedMove st (name id) (name label)

pub step_left : (st : List Sentence) (left : List (Move (List ℕ))) (a : HaltAt) (id : LabelId)
    → a ≡ at.Label id → StandsAtHalt st left a → StepLeft st left id.0
step_left st left a id e h = go left (subst (StandsAtHalt st left) e h)
  where
    go : (left : List (Move (List ℕ))) → StandsAtHalt st left (at.Label id) → StepLeft st left id.0
    go [] h = absurd cc
    go (name label ∷ more) h = record { label = label; more = more; first = refl; numbered = h }
    go (again tag ∷ more) h = absurd h
    go (mark ∷ more) h = absurd h

-- its label is that of its number
pub step_named : (st : List Sentence) (left : List (Move (List ℕ))) (id : ℕ) (text : List ℕ)
    (step : StepLeft st left id)
    → ((s : Sentence) → slice_get (labelled_sentences st) id ≡ Some s → IsLabelled text s)
    → text ≡ step.label
step_named st left id text step named =
    let n = step.numbered in
    let own : IsLabelled text n.0 = named n.0 n.2 in
    let same : name step.label ≡ name n.1 = n.4 in
    cc (n.3)

-- and so of the first move that is left
pub same_first : (st : List Sentence) (left : List (Move (List ℕ))) (id : ℕ) (text : List ℕ)
    (step : StepLeft st left id) (label : List ℕ) (more : List (Move (List ℕ)))
    → left ≡ name label ∷ more
    → ((s : Sentence) → slice_get (labelled_sentences st) id ≡ Some s → IsLabelled text s)
    → text ≡ label
same_first st left id text step label more first named =
    let own = step_named st left id text step named in
    let same : name step.label ∷ step.more ≡ name label ∷ more = sym step.first ∙ first in
    cc

-- the step breaks the rule
pub broken_step : (limit : ℕ) (st before : List Sentence) (s : Sentence) (prefix : Bool)
    (moves : List (Move (List ℕ))) (halt : Halt) (h : HaltsProof limit st before s prefix moves halt)
    (id : ℕ) (step : StepLeft st h.there.left id) (rule : ProofRule) → halt.rule ≡ Some rule
    → BreaksStep (IsWithin limit) rule before h.there.stack step.label
broken_step limit st before s prefix moves halt h id step rule is =
    let Stops : List (Move (List ℕ)) → Option ProofRule → Type 0 =
    λ left r. StopsWith (IsWithin limit) before s prefix h.there.stack h.there.kept left r in
    let first : Stops (name step.label ∷ step.more) (Some rule) =
    subst (λ (r : Option ProofRule). Stops (name step.label ∷ step.more) r) is
    (subst (λ (l : List (Move (List ℕ))). Stops l halt.rule) step.first h.there.stops) in
    first.broken

-- the hypotheses of the assertion with the number are those that the label names
pub frame_names : (st : List Sentence) (index : ℕ) → AllMeant st → (id at : ℕ) (a : Sentence)
    → IsNumbered st id at a → IsAssertion a.kind → (ids : List ℕ)
    → (are : AreHypotheses (record { statements = st; index = at }) ids) → (label : List ℕ)
    → IsNumberedMove st (name id) (name label) → (other : ℕ) (b : Sentence) (hs : List Sentence)
    → Names (take index st) label other b hs → Names (take index st) label at a are.hypotheses
frame_names st index all id at a numbered kind ids are label move other b hs names =
    let found = get_from_take st index other b names.there in
    let same : at ≡ other = one_label st at other a b label all numbered.there found.1 (label_of st id at a label numbered move) names.named in
    names_of st index id at ids are.hypotheses label (record {
      s = a;
      numbered = numbered;
      kind = kind;
      before = (let less : other < index = found.0 in omega arith);
      mandatory = subst (λ (t : Sentence). AreMandatory (take at st) t are.hypotheses) (same_Some are.assertion a (sym are.there ∙ numbered.there)) are.mandatory;
      known = are.numbered;
    }) move

-- how many entries are taken and are there, what is stated, and what there is
pub too_few : (o₀ o₁ o₂ o₃ : List ℕ) (needed there : ℕ) (hs : List Sentence) (steps : List (List ℕ))
    (stack : List Expression) (entries : List Detail) → needed ≡ length hs → there ≡ length stack
    → entries ≡ entries_given steps stack → o₁ ≡ o₀ ++ detail_text (entry_counts needed there)
    → o₂ ≡ o₁ ++ details_text (hypotheses_stated hs) → o₃ ≡ o₂ ++ details_text entries
    → o₃ ≡ o₀ ++ details_text (entry_counts (length hs) (length stack)
    ∷ (hypotheses_stated hs ++ entries_given steps stack))
too_few o₀ o₁ o₂ o₃ needed there hs steps stack entries n t e h₁ h₂ h₃ =
    let whole : details_text (hypotheses_stated hs ++ entries_given steps stack)
    ≡ details_text (hypotheses_stated hs) ++ details_text (entries_given steps stack) =
    simp flat_map-append in
    parts (detail_text (entry_counts (length hs) (length stack))) (details_text (hypotheses_stated hs))
    (details_text (entries_given steps stack))
    (h₁ ∙ ap (λ (k : ℕ). o₀ ++ detail_text (entry_counts k there)) n ∙ ap (λ (k : ℕ). o₀ ++ detail_text (entry_counts (length hs) k)) t)
    h₂ (h₃ ∙ ap (λ (ds : List Detail). o₂ ++ details_text ds) e)
    ∙ ap (λ (text : List ℕ). o₀ ++ (detail_text (entry_counts (length hs) (length stack)) ++ text)) (sym whole)
  where
    parts : (a b c : List ℕ) → o₁ ≡ o₀ ++ a → o₂ ≡ o₁ ++ b → o₃ ≡ o₂ ++ c → o₃ ≡ o₀ ++ (a ++ (b ++ c))
    parts a b c k₁ k₂ k₃ = rw (k₃, k₂, k₁) (simp append_assoc)

-- of another rule nothing is told behind the label
pub step_other : (limit : ℕ) (before : List Sentence) (stack : List Expression) (steps : List (List ℕ))
    (label : List ℕ) (rule : ProofRule) → rule ≢ P8 → rule ≢ P9 → rule ≢ P10 → rule ≢ P11 → rule ≢ P12
    → rule ≢ L1 → AreStepDetails limit before stack steps label rule []
step_other limit before stack steps label P8 few code other share apart long = absurd (few refl)
step_other limit before stack steps label P9 few code other share apart long = absurd (code refl)
step_other limit before stack steps label P10 few code other share apart long = absurd (other refl)
step_other limit before stack steps label P11 few code other share apart long = absurd (share refl)
step_other limit before stack steps label P12 few code other share apart long = absurd (apart refl)
step_other limit before stack steps label L1 few code other share apart long = absurd (long refl)
step_other limit before stack steps label _ few code other share apart long = refl

-- the text of one fact
pub one_told : (o₀ o₁ : List ℕ) (d : Detail) → o₁ ≡ o₀ ++ detail_text d → o₁ ≡ o₀ ++ details_text (d ∷ [])
one_told o₀ o₁ d h = h ∙ ap (λ (text : List ℕ). o₀ ++ text) (sym (append-nil (detail_text d)))

-- the label, and what is told behind it
pub label_told : (o₀ o₁ o₂ text label : List ℕ) (others : List Detail) → text ≡ label
    → o₁ ≡ o₀ ++ detail_text (step_label text) → o₂ ≡ o₁ ++ details_text others
    → o₂ ≡ o₀ ++ details_text (step_label label ∷ others)
label_told o₀ o₁ o₂ text label others same h₁ h₂ =
    h₂ ∙ ap (λ (o : List ℕ). o ++ details_text others) (h₁ ∙ ap (λ (l : List ℕ). o₀ ++ detail_text (step_label l)) same)
    ∙ append_assoc o₀ (detail_text (step_label label)) (details_text others)

-- ---- tags and marks

pub tag_left : (st : List Sentence) (left : List (Move (List ℕ))) (a : HaltAt) (tag : ℕ)
    → a ≡ at.Tag tag → StandsAtHalt st left a
    → (more : List (Move (List ℕ))) × (left ≡ again tag ∷ more)
tag_left st left a tag e h = go left (subst (StandsAtHalt st left) e h)
  where
    go : (left : List (Move (List ℕ))) → StandsAtHalt st left (at.Tag tag) → (more : List (Move (List ℕ))) × (left ≡ again tag ∷ more)
    go [] h = absurd cc
    go (name label ∷ more) h = absurd h
    go (again t ∷ more) h = (more, ap (λ (n : ℕ). again n ∷ more) (sym h))
    go (mark ∷ more) h = absurd h

pub mark_left : (st : List Sentence) (left : List (Move (List ℕ))) (a : HaltAt) → a ≡ at.Mark
    → StandsAtHalt st left a → (more : List (Move (List ℕ))) × (left ≡ mark ∷ more)
mark_left st left a e h = go left (subst (StandsAtHalt st left) e h)
  where
    go : (left : List (Move (List ℕ))) → StandsAtHalt st left at.Mark → (more : List (Move (List ℕ))) × (left ≡ mark ∷ more)
    go [] h = absurd cc
    go (name label ∷ more) h = absurd h
    go (again t ∷ more) h = absurd h
    go (mark ∷ more) h = (more, refl)

-- one move more
count_first : (move : Move (List ℕ)) (moves : List (Move (List ℕ)))
    → steps_in (move ∷ moves) ≡ cond (is_step move) 1 0 + steps_in moves
count_first move moves = sum_by-cons (λ (m : Move (List ℕ)). cond (is_step m) 1 0) move moves

-- each mark keeps one tree
kept_by : (before : List Sentence) (moves : List (Move (List ℕ))) (row row' : Trees)
    (kept kept' : List Trees) → Makes before moves row kept row' kept'
    → length kept' + steps_in moves ≡ length kept + length moves
kept_by before [] row row' kept kept' made = let same : length kept' ≡ length kept = ap length made.1 in omega arith
kept_by before (name label ∷ moves) row row' kept kept' made =
    let same : length made.1 ≡ length kept = ap length made.2.5 in
    let rest : length kept' + steps_in moves ≡ length made.1 + length moves = kept_by before moves made.0 row' made.1 kept' made.3 in
    let count : steps_in (name label ∷ moves) ≡ 1 + steps_in moves = count_first (name label) moves in
    omega arith
kept_by before (again tag ∷ moves) row row' kept kept' made =
    let same : length made.1 ≡ length kept = ap length made.2.3 in
    let rest : length kept' + steps_in moves ≡ length made.1 + length moves = kept_by before moves made.0 row' made.1 kept' made.3 in
    let one : Move (List ℕ) = again tag in
    let count : steps_in (one ∷ moves) ≡ 1 + steps_in moves = count_first one moves in
    omega arith
kept_by before (mark ∷ moves) row row' kept kept' made =
    let same : length made.1 ≡ length (kept ++ tree made.2.1 made.2.2 none ∷ []) = ap length made.2.5 in
    let rest : length kept' + steps_in moves ≡ length made.1 + length moves = kept_by before moves made.0 row' made.1 kept' made.3 in
    let one : Move (List ℕ) = mark in
    let count : steps_in (one ∷ moves) ≡ 0 + steps_in moves = count_first one moves in
    omega (arith, length-append {A = Trees})

-- so many are kept, which are the moves that passed without the steps
pub kept_count : (limit : ℕ) (st before : List Sentence) (s : Sentence) (prefix : Bool)
    (moves : List (Move (List ℕ))) (halt : Halt) (h : HaltsProof limit st before s prefix moves halt)
    → length h.there.kept + halt.steps ≡ halt.passed
kept_count limit st before s prefix moves halt h =
    let all = kept_by before h.there.earlier none h.there.passed.trees [] h.there.passed.shelf h.there.passed.made in
    let shelf = zip_length (λ t e. DeriveAll (IsWithin limit) before t (e ∷ [])) h.there.passed.shelf h.there.kept h.there.passed.kept_derived in
    let steps = h.steps in
    let passed = h.count in
    omega arith

-- ---- what is left of a known prefix

-- the entries, and then what is to be proved
pub left_told : (st : List Sentence) (s : Sentence) (entries told : List Detail)
    (label numbers o₀ o₁ o₂ : List ℕ) → told ≡ entries → IsLabelled label s → AreNumbers st numbers s.symbols
    → o₁ ≡ o₀ ++ details_text told
    → o₂ ≡ o₁ ++ detail_text (hypothesis_stated label (labels_at (symbols_of st) numbers))
    → o₂ ≡ o₀ ++ details_text (entries ++ hypothesis_stated (unwrap_or s.label []) s.symbols ∷ [])
left_told st s entries told label numbers o₀ o₁ o₂ same labelled are h₁ h₂ =
    let named : labels_at (symbols_of st) numbers ≡ s.symbols = names_at (symbols_of st) numbers s.symbols are in
    let its : label ≡ unwrap_or s.label [] = ap (λ (o : Option (List ℕ)). unwrap_or o []) (sym labelled) in
    let last : Detail = hypothesis_stated (unwrap_or s.label []) s.symbols in
    let whole : details_text (entries ++ last ∷ []) ≡ details_text entries ++ details_text (last ∷ []) = simp flat_map-append in
    h₂ ∙ ap (λ (e : Expression). o₁ ++ detail_text (hypothesis_stated label e)) named
    ∙ ap (λ (l : List ℕ). o₁ ++ detail_text (hypothesis_stated l s.symbols)) its
    ∙ ap (λ (text : List ℕ). text ++ detail_text last) (h₁ ∙ ap (λ (ds : List Detail). o₀ ++ details_text ds) same)
    ∙ append_assoc o₀ (details_text entries) (detail_text last)
    ∙ ap (λ (text : List ℕ). o₀ ++ (details_text entries ++ text)) (sym (append-nil (detail_text last)))
    ∙ ap (λ (text : List ℕ). o₀ ++ text) (sym whole)
