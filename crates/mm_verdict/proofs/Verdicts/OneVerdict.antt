-- Files have one verdict, and always one; it is yes exactly where they obey the profile. What one
-- profile accepts the other accepts, or refuses by a rule of its own.
use Rattle.std.proofs.Common.{◌≡◌, ◌≢◌, ℕ, zero, suc, ◌<◌, ◌≤◌, List, [], ◌∷◌, ◌++◌, length}
use Rattle.std.proofs.Common.{slice_get, Bool, true, false, Option, Some, None, ◌⊎◌, inl, inr, refl}
use Rattle.std.proofs.Common.{sym, subst, arith, append_assoc, append-nil, not, ap, ◌∙◌}
use Rattle.std.specs.List.{AllByRecursion}
use Rattle.mm_text.specs.declared.fault.LoadRule.{LoadRule}
use Rattle.mm_base.specs.Statement.{PlainStatement, HasForm}
use Rattle.mm_base.specs.MostBytes.{most_bytes}
use Rattle.mm_text.specs.Files.{PlainFile, BreaksLoad, HasTwins, total_bytes}
use Rattle.mm_text.specs.Reading.{PlainFault, Reads}
use Rattle.mm_text.proofs.Reader.WholeReadings.{each_has_one_reading, readings_are_formed_in_place}
use Rattle.mm_base.proofs.Lists.{all_prefix, two_cuts}
use Rattle.mm_frame.specs.Sentence.{sentence_of, Sentence}
use Rattle.mm_frame.specs.Rules.{AllMeant, IsMeant, FirstBroken, rank}
use Rattle.mm_frame.specs.Form.{IsFormedSentence, AllFormed}
use Rattle.mm_frame.proofs.BookLists.Declarations.{formed_said}
use Rattle.mm_step.specs.declared.profile.Profile.{Profile}
use Rattle.mm_step.specs.declared.fault.ProofRule.{ProofRule}
use Rattle.std.proofs.Math.Decide.{dec_le}
use Rattle.mm_frame.proofs.Rules.DecidedStatements.{dec_both, dec_as, dec_some, symbol_dec}
use Rattle.mm_proof.proofs.ProofVerdicts.ProfileVerdicts.{one_verdict_under_holds}
use Rattle.mm_proof.proofs.ProofVerdicts.ProfileVerdicts.{one_prefix_verdict_under_holds, only_form}
use Rattle.mm_rules.specs.declared.rule.Rule.{Rule}
use Rattle.mm_rules.specs.Verdict.{PlainRefusal, Verdict, Load, Refused, Incomplete, Yes, Obeys}
use Rattle.mm_rules.specs.Verdict.{AllObey, AreAccepted, CanBeRead, HasFault, HasVerdict}
use Rattle.mm_rules.specs.Verdict.{RefusesStatement, sentences, refusal_of, text_refusal, proof_of}
use Rattle.mm_rules.specs.Verdict.{proofs_of, unproved_of, is_proof, is_unproved, IsProofFault}
use Rattle.mm_rules.specs.Verdict.{RefusesText, ObeyTheProfile}
use Rattle.mm_verdict.proofs.Verdicts.RankedRules.{some_meaning, ranked, ranked-rank}
use Rattle.mm_verdict.proofs.Verdicts.StatementByStatement.{all_meant, one_more, no_statement}
use Rattle.mm_verdict.proofs.Verdicts.StatementByStatement.{proof_not_unproved, none_unproved}
use Rattle.mm_verdict.proofs.Verdicts.StatementByStatement.{complete_where_none}
use Rattle.mm_rules.proofs.Judgements.CompleteProofs.{proof_there}
use Rattle.mm_verdict.proofs.Verdicts.StatementByStatement.{provable_kind, none_incomplete}
use Rattle.std.proofs.lemmas.Bool.{cases_order}
use Rattle.mm_frame.specs.declared.rule.MeaningRule.{MeaningRule}
use Rattle.mm_step.specs.Profiles.{limit_of}
use Rattle.mm_step.specs.Proof.{IsWithin}
use Rattle.mm_proof.specs.Proof.{IsFault}
use Rattle.mm_proof.specs.Strict.{HasFormOf}
use Rattle.mm_proof.specs.UnderProfile.{IsFaultUnder}
use Rattle.mm_proof.proofs.ProofVerdicts.VerdictLaws.{limits_aside_holds}
use Rattle.mm_proof.specs.Tokens.{is_incomplete}
use Rattle.mm_verdict.proofs.Verdicts.AcceptedStatements.{same_reading}
use Rattle.mm_step.specs.declared.profile.Profile.TheVariants.{Strict, Lenient}
use Rattle.mm_verdict.specs.Laws.{IsRefusedBy, BetweenProfiles}
use Rattle.mm_text.specs.declared.fault.LoadRule.TheVariants as load
use Rattle.mm_rules.specs.declared.rule.Rule.TheVariants as rules
use Rattle.mm_step.specs.declared.fault.ProofRule.TheVariants as proof

-- ==== files of every kind have a verdict

-- ## The files as a whole

twins_dec : (files : List PlainFile) → Dec (HasTwins files)
twins_dec files = dec_as
    (λ (i, f, at, (j, g, to, (less, same))).
    record { i = i; j = j; one = f; other = g; apart = less; at_i = at; at_j = to; same = same })
    (λ h. (h.i, h.one, h.at_i, (h.j, h.other, h.at_j, (h.apart, h.same))))
    (dec_some (λ i f. (j : ℕ) × (g : PlainFile) × (slice_get files j ≡ Some g) × ((i < j) × (f.name ≡ g.name)))
    (λ i f. dec_some (λ j g. (i < j) × (f.name ≡ g.name)) (λ j g. dec_both (dec_le (suc i) j) (symbol_dec f.name g.name)) files) files)

-- what is known of files that aren't none
some_load : (files : List PlainFile) → files ≢ [] → Dec (HasTwins files) → Dec (1073741825 ≤ total_bytes files)
    → ((rule : LoadRule) × BreaksLoad files rule) ⊎ CanBeRead files
some_load files some (yes twins) large = inl (load.F2, (some, twins))
some_load files some (no none) (yes large) = inl (load.F3, (some, none, omega arith))
some_load files some (no none) (no small) = inr (can_be_read files some none (omega arith))
  where
    can_be_read : (files : List PlainFile) → files ≢ [] → ¬ (HasTwins files) → total_bytes files ≤ most_bytes → CanBeRead files
    can_be_read files some none small load.F1 broken = some broken
    can_be_read files some none small load.F2 broken = none broken.1
    can_be_read files some none small load.F3 broken = let large : most_bytes < total_bytes files = broken.2 in absurd (omega arith)

judged_load : (files : List PlainFile) → ((rule : LoadRule) × BreaksLoad files rule) ⊎ CanBeRead files
judged_load [] = inl (load.F1, refl)
judged_load (f ∷ files) = some_load (f ∷ files) (λ e. absurd cc) (twins_dec (f ∷ files)) (dec_le 1073741825 (total_bytes (f ∷ files)))

-- ## The statements, one after the other

pub formed_sentences : (statements : List PlainStatement) → AllByRecursion HasForm statements → AllFormed (sentences statements)
formed_sentences [] all index s e = absurd cc
formed_sentences (t ∷ statements) all zero s e = let same : sentence_of t ≡ s = cc in subst IsFormedSentence same (formed_said t all.0)
formed_sentences (t ∷ statements) all (suc index) s e = formed_sentences statements all.1 index s e

-- the proof of a statement breaks no rule, or has a fault
pub proof_obeys_or_fails : (profile : Profile) (before : List PlainStatement) (s : PlainStatement)
    → AllMeant (sentences before) → AllFormed (sentences before) → (a b : Bool) → is_proof s ≡ a
    → is_unproved s ≡ b → IsMeant (sentences before) (sentence_of s)
    → Obeys profile (sentences before) s
    ⊎ ((rule : ProofRule) × (step : ℕ) × IsProofFault profile (sentences before) s rule step)
proof_obeys_or_fails profile before s earlier formed true b e f meant =
    let law = one_verdict_under_holds profile (sentences before) (sentence_of s) (proof_of s)
    earlier formed in
    let none = proof_not_unproved s e in
    elim (law.0) [
      | inl proved ↦ inl (record { meant = meant; proved = λ c. proved; known = λ u. absurd cc })
      | inr fault ↦ inr (fault.0, fault.1, inl (e, fault.2))
    ]
proof_obeys_or_fails profile before s earlier formed false true e f meant =
    let law = one_prefix_verdict_under_holds profile (sentences before) (sentence_of s) (proof_of s)
    earlier formed in
    elim (law.0) [
      | inl allowed ↦ inl (record { meant = meant; proved = λ c. absurd cc; known = λ u. allowed })
      | inr fault ↦ inr (fault.0, fault.1, inr (f, fault.2))
    ]
proof_obeys_or_fails profile before s earlier formed false false e f meant =
    inl (record { meant = meant; proved = λ complete. absurd cc; known = λ open_one. absurd cc })

-- a statement obeys the rules, or has a fault
judged_statement : (profile : Profile) (before : List PlainStatement) (s : PlainStatement) → AllObey profile before → AllFormed (sentences before)
    → Obeys profile (sentences before) s ⊎ ((rule : Rule) × (step : ℕ) × HasFault profile (sentences before) s rule step)
judged_statement profile before s obeyed formed = elim (some_meaning (sentences before) (sentence_of s)) [
  | inl meant ↦ elim (proof_obeys_or_fails profile before s (all_meant profile before obeyed) formed _ _ refl refl meant) [
    | inl obeys ↦ inl obeys
    | inr fault ↦ inr (rules.Proof fault.0, fault.1, inr (meant, fault.0, fault.2, refl))
  ]
  | inr broken ↦ inr (rules.Meaning broken.0, 0, inl (broken.0, broken.1, refl, refl))
]

-- what comes before a statement says what is in form
pub formed_before : (statements before : List PlainStatement) (s : PlainStatement)
    (after : List PlainStatement) → AllByRecursion HasForm statements
    → statements ≡ before ++ s ∷ after → AllFormed (sentences before)
formed_before statements before s after formed split =
    formed_sentences before
    (all_prefix HasForm before (s ∷ after) (subst (AllByRecursion HasForm) split formed))

-- the first statement at fault, or that there is none
judged_statements : (profile : Profile) (files : List PlainFile) (before later : List PlainStatement) → AllObey profile before → AllByRecursion HasForm (before ++ later)
    → ((refusal : PlainRefusal) × RefusesStatement profile files (before ++ later) refusal) ⊎ AllObey profile (before ++ later)
judged_statements profile files before [] obeyed formed = inr (subst (AllObey profile) (sym (append-nil before)) obeyed)
judged_statements profile files before (s ∷ later) obeyed formed =
    elim (judged_statement profile before s obeyed
    (formed_sentences before (all_prefix HasForm before (s ∷ later) formed))) [
      | inl obeys ↦
          rw (← append_assoc before (s ∷ []) later)
          (judged_statements profile files (before ++ s ∷ []) later (one_more profile before s obeyed obeys)
          (rw append_assoc formed))
      | inr fault ↦ inl (
        refusal_of files (length before) s fault.0 fault.1,
        record { before = before; s = s; after = later; split = refl; obeyed = obeyed; rule = fault.0; step = fault.1; fault = fault.2; refused = refl },
      )
    ]

-- ## The verdict

concluded_verdict : (profile : Profile) (files : List PlainFile) (statements : List PlainStatement) → AreAccepted profile files statements
    → (unproved : List (List ℕ)) → unproved ≡ unproved_of statements → (verdict : Verdict) × HasVerdict profile files verdict
concluded_verdict profile files statements accepted [] e = (Yes (length statements) (proofs_of statements), (statements, accepted, sym e, refl, refl))
concluded_verdict profile files statements accepted (l ∷ ls) e = (Incomplete (l ∷ ls), (statements, accepted, e, λ f. absurd cc))

ended_verdict : (profile : Profile) (files : List PlainFile) (statements : List PlainStatement) (ending : Option PlainFault) → CanBeRead files
    → Reads files statements ending → AllObey profile statements → (verdict : Verdict) × HasVerdict profile files verdict
ended_verdict profile files statements None readable reads obeyed =
    concluded_verdict profile files statements (record { readable = readable; reads = reads; obeyed = obeyed }) (unproved_of statements) refl
ended_verdict profile files statements (Some fault) readable reads obeyed = (
  Refused (text_refusal files fault),
  (readable, statements, Some fault, reads, inr (record { obeyed = obeyed; fault = fault; ended = refl; refused = refl })),
)

read_verdict : (profile : Profile) (files : List PlainFile) → CanBeRead files → (verdict : Verdict) × HasVerdict profile files verdict
read_verdict profile files readable =
    let one = each_has_one_reading files in
    elim (judged_statements profile files [] one.statements (no_statement profile) (readings_are_formed_in_place files one.statements one.ending one.reads).formed) [
      | inl refused ↦ (Refused refused.0, (readable, one.statements, one.ending, one.reads, inl refused.1))
      | inr obeyed ↦ ended_verdict profile files one.statements one.ending readable one.reads obeyed
    ]

pub some_verdict : (profile : Profile) (files : List PlainFile) → (verdict : Verdict) × HasVerdict profile files verdict
some_verdict profile files = elim (judged_load files) [
  | inl broken ↦ (Load (rules.Load broken.0), (broken.0, broken.1, refl))
  | inr readable ↦ read_verdict profile files readable
]

-- ==== there is one verdict over files; yes says that the profile is obeyed, and such files get
-- yes, the limit aside

-- ## The rules of the files as a whole

one_load : (files : List PlainFile) (a b : LoadRule) → BreaksLoad files a → BreaksLoad files b → a ≡ b
one_load files load.F1 load.F1 h k = refl
one_load files load.F1 b h k = absurd (k.0 h)
one_load files a load.F1 h k = absurd (h.0 k)
one_load files load.F2 load.F2 h k = refl
one_load files load.F2 load.F3 h k = absurd (k.1 h.1)
one_load files load.F3 load.F2 h k = absurd (h.1 k.1)
one_load files load.F3 load.F3 h k = refl

-- ## The fault of a statement

-- the first rule that a statement breaks is one
one_first : (before : List Sentence) (s : Sentence) (a b : MeaningRule) → FirstBroken a before s → FirstBroken b before s → a ≡ b
one_first before s a b f g = elim (cases_order (rank a) (rank b)) [
  | inl same ↦ sym (ranked-rank a) ∙ ap ranked same ∙ ranked-rank b
  | inr (inl less) ↦ absurd (g.first a less f.broken)
  | inr (inr more) ↦ absurd (f.first b more g.broken)
]

module _ (profile : Profile) (before : List Sentence) (s : PlainStatement) (meant : AllMeant before)
    (formed : AllFormed before) where
  -- what obeys the rules has no fault, nor has its proof, or what is known of one
  pub obeying_faultless : (rule : Rule) (step : ℕ) → Obeys profile before s
      → HasFault profile before s rule step → ⊥
  obeying_faultless rule step obeyed (inl f) = obeyed.meant f.0 f.1.broken
  obeying_faultless rule step obeyed (inr (so, broken, inl f, is)) =
      (one_verdict_under_holds profile before (sentence_of s) (proof_of s) meant formed).1
      (obeyed.proved f.0) broken step f.1
  obeying_faultless rule step obeyed (inr (so, broken, inr f, is)) =
      (one_prefix_verdict_under_holds profile before (sentence_of s) (proof_of s) meant formed).1
      (obeyed.known f.0) broken step f.1

  -- the fault of a proof is one, and so is that of what is known of one
  one_proof_fault : (rule rule' : ProofRule) (step step' : ℕ)
      → IsProofFault profile before s rule step → IsProofFault profile before s rule' step'
      → (rule ≡ rule') × (step ≡ step')
  one_proof_fault rule rule' step step' (inl f) (inl g) =
      (one_verdict_under_holds profile before (sentence_of s) (proof_of s) meant formed).2
      rule rule' step step' f.1 g.1
  one_proof_fault rule rule' step step' (inl f) (inr g) = cc (proof_not_unproved s f.0, g.0)
  one_proof_fault rule rule' step step' (inr f) (inl g) = cc (proof_not_unproved s g.0, f.0)
  one_proof_fault rule rule' step step' (inr f) (inr g) =
      (one_prefix_verdict_under_holds profile before (sentence_of s) (proof_of s) meant formed).2
      rule rule' step step' f.1 g.1

  -- the fault of a statement is one
  pub one_statement_fault : (rule rule' : Rule) (step step' : ℕ)
      → HasFault profile before s rule step → HasFault profile before s rule' step'
      → (rule ≡ rule') × (step ≡ step')
  one_statement_fault rule rule' step step' (inl f) (inl g) =
      (f.2 ∙ ap rules.Meaning (one_first before _ f.0 g.0 f.1 g.1) ∙ sym g.2, f.3 ∙ sym g.3)
  one_statement_fault rule rule' step step' (inl f) (inr g) = absurd (g.0 f.0 f.1.broken)
  one_statement_fault rule rule' step step' (inr f) (inl g) = absurd (f.0 g.0 g.1.broken)
  one_statement_fault rule rule' step step' (inr f) (inr g) =
      let same = one_proof_fault f.1 g.1 step step' f.2 g.2 in
      (f.3 ∙ ap rules.Proof same.0 ∙ sym g.3, same.1)

-- ## The first statement at fault

-- the statements before the first one at fault are determined, and so is its fault
one_refused_statement : (profile : Profile) (files : List PlainFile)
    (statements : List PlainStatement) (a b : PlainRefusal) → AllByRecursion HasForm statements
    → RefusesStatement profile files statements a → RefusesStatement profile files statements b
    → a ≡ b
one_refused_statement profile files statements a b formed r q =
    let formed_r = formed_before statements r.before r.s r.after formed r.split in
    let formed_q = formed_before statements q.before q.s q.after formed q.split in
    elim (two_cuts r.before r.s r.after q.before q.s q.after (sym r.split ∙ q.split)) [
      | inr (inl (between, e, rest)) ↦
          absurd (obeying_faultless profile (sentences r.before) r.s (all_meant profile _ r.obeyed)
          formed_r r.rule r.step (q.obeyed r.before between r.s e) r.fault)
      | inr (inr (between, e, rest)) ↦
          absurd (obeying_faultless profile (sentences q.before) q.s (all_meant profile _ q.obeyed)
          formed_q q.rule q.step (r.obeyed q.before between q.s e) q.fault)
      | inl (e, f, rest) ↦
          let one = one_statement_fault profile (sentences r.before) r.s
          (all_meant profile _ r.obeyed) formed_r r.rule q.rule r.step q.step r.fault
          (rw (e, f) q.fault) in
          r.refused
          ∙ (λ i. refusal_of files (length (e i)) (f i) (one.0 i) (one.1 i))
          ∙ sym q.refused
    ]

-- where each statement obeys the rules, none is refused
none_refused : (profile : Profile) (files : List PlainFile) (statements : List PlainStatement)
    (a : PlainRefusal) → AllByRecursion HasForm statements → AllObey profile statements
    → RefusesStatement profile files statements a → ⊥
none_refused profile files statements a formed obeyed r =
    obeying_faultless profile (sentences r.before) r.s (all_meant profile _ r.obeyed)
    (formed_before statements r.before r.s r.after formed r.split) r.rule r.step
    (obeyed r.before r.after r.s r.split) r.fault

one_refused : (profile : Profile) (files : List PlainFile) (statements : List PlainStatement)
    (ending : Option PlainFault) (a b : PlainRefusal) → AllByRecursion HasForm statements
    → RefusesStatement profile files statements a ⊎ RefusesText profile files statements ending a
    → RefusesStatement profile files statements b ⊎ RefusesText profile files statements ending b
    → a ≡ b
one_refused profile files statements ending a b formed (inl r) (inl q) =
    one_refused_statement profile files statements a b formed r q
one_refused profile files statements ending a b formed (inl r) (inr q) =
    absurd (none_refused profile files statements a formed q.obeyed r)
one_refused profile files statements ending a b formed (inr r) (inl q) =
    absurd (none_refused profile files statements b formed r.obeyed q)
one_refused profile files statements ending a b formed (inr r) (inr q) =
    let same : r.fault ≡ q.fault = cc (r.ended, q.ended) in
    r.refused ∙ ap (text_refusal files) same ∙ sym q.refused

-- ## The verdict

-- files that are read to the end, each statement obeying the rules, aren't refused
pub accepted_or_refused : (profile : Profile) (files : List PlainFile) (a b : List PlainStatement) (ending : Option PlainFault) (refusal : PlainRefusal)
    → AreAccepted profile files a → Reads files b ending
    → RefusesStatement profile files b refusal ⊎ RefusesText profile files b ending refusal → ⊥
accepted_or_refused profile files a b ending refusal accepted reads (inl r) =
    let same = (same_reading files a b None ending accepted.reads reads).0 in
    none_refused profile files b refusal (readings_are_formed_in_place files b ending reads).formed
    (subst (AllObey profile) same accepted.obeyed) r
accepted_or_refused profile files a b ending refusal accepted reads (inr r) =
    let same = (same_reading files a b None ending accepted.reads reads).1 in cc (same, r.ended)

same_accepted : (profile : Profile) (files : List PlainFile) (a b : List PlainStatement) → AreAccepted profile files a → AreAccepted profile files b → a ≡ b
same_accepted profile files a b one other =
    (same_reading files a b None None one.reads other.reads).0

pub one_verdict : (profile : Profile) (files : List PlainFile) (v w : Verdict) → HasVerdict profile files v → HasVerdict profile files w → v ≡ w
one_verdict profile files (Load a) (Load b) h k = ap Load (h.2 ∙ ap rules.Load (one_load files h.0 k.0 h.1 k.1) ∙ sym k.2)
one_verdict profile files (Load a) (Refused b) h k = absurd (k.0 h.0 h.1)
one_verdict profile files (Load a) (Incomplete ls) h k = absurd (k.1.readable h.0 h.1)
one_verdict profile files (Load a) (Yes n p) h k = absurd (k.1.readable h.0 h.1)
one_verdict profile files (Refused a) (Load b) h k = absurd (h.0 k.0 k.1)
one_verdict profile files (Refused a) (Refused b) h k =
    let same = same_reading files h.1 k.1 h.2 k.2 h.3 k.3 in
    ap Refused (one_refused profile files k.1 k.2 a b
    (readings_are_formed_in_place files k.1 k.2 k.3).formed (rw (same.0, same.1) at h.4) k.4)
one_verdict profile files (Refused a) (Incomplete ls) h k = absurd (accepted_or_refused profile files k.0 h.1 h.2 a k.1 h.3 h.4)
one_verdict profile files (Refused a) (Yes n p) h k = absurd (accepted_or_refused profile files k.0 h.1 h.2 a k.1 h.3 h.4)
one_verdict profile files (Incomplete ls) (Load b) h k = absurd (h.1.readable k.0 k.1)
one_verdict profile files (Incomplete ls) (Refused b) h k = absurd (accepted_or_refused profile files h.0 k.1 k.2 b h.1 k.3 k.4)
one_verdict profile files (Incomplete ls) (Incomplete ms) h k =
    ap Incomplete (h.2 ∙ ap unproved_of (same_accepted profile files h.0 k.0 h.1 k.1) ∙ sym k.2)
one_verdict profile files (Incomplete ls) (Yes n p) h k =
    absurd (h.3 (h.2 ∙ ap unproved_of (same_accepted profile files h.0 k.0 h.1 k.1) ∙ k.2))
one_verdict profile files (Yes n p) (Load b) h k = absurd (h.1.readable k.0 k.1)
one_verdict profile files (Yes n p) (Refused b) h k = absurd (accepted_or_refused profile files h.0 k.1 k.2 b h.1 k.3 k.4)
one_verdict profile files (Yes n p) (Incomplete ls) h k =
    absurd (k.3 (k.2 ∙ ap unproved_of (same_accepted profile files k.0 h.0 k.1 h.1) ∙ h.2))
one_verdict profile files (Yes n p) (Yes m q) h k =
    cc (same_accepted profile files h.0 k.0 h.1 k.1, h.3, k.3, h.4, k.4)

-- ## Yes, and the profile

pub yes_obeys : (profile : Profile) (files : List PlainFile) (n p : ℕ) → HasVerdict profile files (Yes n p) → ObeyTheProfile profile files
yes_obeys profile files n p h = record {
  handed = h.1.readable;
  statements = h.0;
  reading = h.1.reads;
  meant = λ before after s split. (h.1.obeyed before after s split).meant;
  proved = λ before after s split provable.
      let complete : is_incomplete (proof_of s) ≡ false =
      complete_where_none before after s (subst (λ (ss : List PlainStatement). AllByRecursion HasForm ss) split (readings_are_formed_in_place files h.0 None h.1.reads).formed)
      (sym (ap unproved_of split) ∙ h.2) provable in (
        complete,
        (limits_aside_holds (limit_of profile) (sentences before) (sentence_of s) (proof_of s)
            (all_meant profile before (λ earlier later t e. h.1.obeyed earlier (later ++ s ∷ after) t
            (split ∙ ap (λ (xs : List PlainStatement). xs ++ s ∷ after) e ∙ append_assoc earlier (t ∷ later) (s ∷ after))))).0
            ((h.1.obeyed before after s split).proved (proof_there s provable complete)).1,
        ((h.1.obeyed before after s split).proved (proof_there s provable complete)).0,
      );
}

-- the fault of a proof that has the form is one of the other rules
fault_aside : (profile : Profile) (before : List Sentence) (s : Sentence) (tokens : List (List ℕ))
    (rule : ProofRule) (step : ℕ) → HasFormOf profile before s tokens
    → IsFaultUnder profile before s tokens rule step
    → IsFault (IsWithin (limit_of profile)) before s tokens rule step
fault_aside profile before s tokens rule step form (inl (zero_step, inl whole)) =
    inl (zero_step, whole)
fault_aside profile before s tokens rule step form (inl (zero_step, inr none)) =
    absurd (none.2 form)
fault_aside profile before s tokens rule step form (inr (whole, formed, moves, said, fault)) =
    inr (whole, moves, said, fault)

-- where the profile is obeyed, the fault of a proof is that a step passes the limit
proof_over : (profile : Profile) (files : List PlainFile) (obey : ObeyTheProfile profile files)
    (before after : List PlainStatement) (s : PlainStatement)
    → obey.statements ≡ before ++ s ∷ after → AllObey profile before
    → (rule : ProofRule) (step : ℕ) → IsProofFault profile (sentences before) s rule step
    → rule ≡ proof.L1
proof_over profile files obey before after s split obeyed rule step (inl f) =
    let law = limits_aside_holds (limit_of profile) (sentences before) (sentence_of s) (proof_of s)
    (all_meant profile before obeyed) in
    let proved = obey.proved before after s split
    (provable_kind s.kind (not (is_incomplete (proof_of s))) f.0) in
    law.2 proved.1 rule step
    (fault_aside profile (sentences before) (sentence_of s) (proof_of s) rule step proved.2 f.1)
proof_over profile files obey before after s split obeyed rule step (inr f) =
    let provable = provable_kind s.kind (is_incomplete (proof_of s)) f.0 in
    let complete = (obey.proved before after s split provable).0 in
    cc (proof_not_unproved s (proof_there s provable complete), f.0)

-- where the profile is obeyed, what is refused passes the limit
over_the_limit : (profile : Profile) (files : List PlainFile) (obey : ObeyTheProfile profile files)
    (refusal : PlainRefusal) → RefusesStatement profile files obey.statements refusal
    → refusal.rule ≡ rules.Proof proof.L1
over_the_limit profile files obey refusal r = elim (r.fault) [
  | inl f ↦ absurd (obey.meant r.before r.after r.s r.split f.0 f.1.broken)
  | inr f ↦
      ap (λ (q : PlainRefusal). q.rule) r.refused ∙ f.3 ∙ ap rules.Proof
      (proof_over profile files obey r.before r.after r.s r.split r.obeyed f.1 r.step f.2)
]

pub profile_verdict : (profile : Profile) (files : List PlainFile) → ObeyTheProfile profile files → (v : Verdict) → HasVerdict profile files v
    → ((n : ℕ) × (p : ℕ) × (v ≡ Yes n p)) ⊎ ((refusal : PlainRefusal) × (v ≡ Refused refusal) × (refusal.rule ≡ rules.Proof proof.L1))
profile_verdict profile files obey (Load rule) h = absurd (obey.handed h.0 h.1)
profile_verdict profile files obey (Incomplete ls) h =
    let same = (same_reading files h.0 obey.statements None None h.1.reads obey.reading).0 in
    absurd (h.3 (h.2 ∙ ap unproved_of same ∙ none_unproved obey.statements (λ before after s split provable. (obey.proved before after s split provable).0)))
profile_verdict profile files obey (Yes n p) h = inl (n, p, refl)
profile_verdict profile files obey (Refused refusal) h =
    let same = same_reading files h.1 obey.statements h.2 None h.3 obey.reading in
    elim (h.4) [
      | inl r ↦ inr (refusal, refl, over_the_limit profile files obey refusal (rw same.0 at r))
      | inr r ↦ cc (same.1, r.ended)
    ]

-- ## What an answer tells

pub only_told : (profile : Profile) (files : List PlainFile) (o : Option Verdict) → ((v : Verdict) → o ≡ Some v → HasVerdict profile files v)
    → (w : Verdict) → HasVerdict profile files w → (o ≡ None) ⊎ (o ≡ Some w)
only_told profile files None holds w h = inl refl
only_told profile files (Some v) holds w h = inr (ap Some (one_verdict profile files v w (holds v refl) h))

pub accepted_told : (profile : Profile) (files : List PlainFile) (o : Option Verdict) → ((v : Verdict) → o ≡ Some v → HasVerdict profile files v) → ObeyTheProfile profile files
    → ((n : ℕ) × (p : ℕ) × (o ≡ Some (Yes n p))) ⊎ ((refusal : PlainRefusal) × (o ≡ Some (Refused refusal)) × (refusal.rule ≡ rules.Proof proof.L1)) ⊎ (o ≡ None)
accepted_told profile files None holds obey = inr (inr refl)
accepted_told profile files (Some v) holds obey = elim (profile_verdict profile files obey v (holds v refl)) [
  | inl found ↦ inl (found.0, found.1, ap Some found.2)
  | inr over ↦ inr (inl (over.0, ap Some over.1, over.2))
]

-- ==== what one profile accepts the other accepts, or refuses by a rule that is its own

-- yes in both profiles tells the same numbers
same_yes : (one other : Profile) (files : List PlainFile) (n p m q : ℕ)
    → HasVerdict one files (Yes n p) → HasVerdict other files (Yes m q)
    → HasVerdict other files (Yes n p)
same_yes one other files n p m q h k =
    let same = (same_reading files h.0 k.0 None None h.1.reads k.1.reads).0 in
    (k.0, k.1, k.2, h.3 ∙ ap length same, h.4 ∙ ap proofs_of same)

-- ---- under the lenient profile

-- what obeys the strict profile obeys the lenient one
obey_lenient : (files : List PlainFile) → ObeyTheProfile Strict files
    → ObeyTheProfile Lenient files
obey_lenient files obey = record {
  handed = obey.handed;
  statements = obey.statements;
  reading = obey.reading;
  meant = obey.meant;
  proved = λ before after s split provable.
      let p = obey.proved before after s split provable in (p.0, p.1, tt);
}

strict_yes : (files : List PlainFile) (n p : ℕ) → HasVerdict Strict files (Yes n p)
    → HasVerdict Lenient files (Yes n p) ⊎ IsRefusedBy Lenient files (rules.Proof proof.L1)
strict_yes files n p h =
    let (v, holds) = some_verdict Lenient files in
    elim (profile_verdict Lenient files (obey_lenient files (yes_obeys Strict files n p h)) v
    holds) [
      | inl (m, q, is) ↦ inl (same_yes Strict Lenient files n p m q h
          (subst (HasVerdict Lenient files) is holds))
      | inr (refusal, is, rule) ↦ inr (refusal, subst (HasVerdict Lenient files) is holds, rule)
    ]

-- ---- under the strict profile

-- where the lenient profile says yes, the fault of a proof is its form
form_fault : (files : List PlainFile) (n p : ℕ) (h : HasVerdict Lenient files (Yes n p))
    (before after : List PlainStatement) (s : PlainStatement) → h.0 ≡ before ++ s ∷ after
    → AllObey Strict before → (rule : ProofRule) (step : ℕ)
    → IsProofFault Strict (sentences before) s rule step → rule ≡ proof.P15
form_fault files n p h before after s split obeyed rule step (inl (complete, fault)) =
    only_form (sentences before) (sentence_of s) (proof_of s) rule step
    (all_meant Strict before obeyed) ((h.1.obeyed before after s split).proved complete) fault
form_fault files n p h before after s split obeyed rule step (inr (open_one, fault)) =
    let formed = subst (λ (ss : List PlainStatement). AllByRecursion HasForm ss) split
    (readings_are_formed_in_place files h.0 None h.1.reads).formed in
    absurd (none_incomplete before after s formed (sym (ap unproved_of split) ∙ h.2) open_one)

-- so is that of the first statement at fault
form_refused : (files : List PlainFile) (n p : ℕ) (h : HasVerdict Lenient files (Yes n p))
    (refusal : PlainRefusal) → RefusesStatement Strict files h.0 refusal → refusal.rule ≡ rules.Proof proof.P15
form_refused files n p h refusal r = elim (r.fault) [
  | inl f ↦ absurd ((h.1.obeyed r.before r.after r.s r.split).meant f.0 f.1.broken)
  | inr f ↦
      let form = form_fault files n p h r.before r.after r.s r.split r.obeyed f.1 r.step f.2 in
      ap (λ (q : PlainRefusal). q.rule) r.refused ∙ f.3 ∙ ap rules.Proof form
]

lenient_yes : (files : List PlainFile) (n p : ℕ) → HasVerdict Lenient files (Yes n p)
    → (v : Verdict) → HasVerdict Strict files v
    → HasVerdict Strict files (Yes n p) ⊎ IsRefusedBy Strict files (rules.Proof proof.P15)
lenient_yes files n p h (Load rule) k = absurd (h.1.readable k.0 k.1)
lenient_yes files n p h (Incomplete labels) k =
    let same = (same_reading files k.0 h.0 None None k.1.reads h.1.reads).0 in
    absurd (k.3 (k.2 ∙ ap unproved_of same ∙ h.2))
lenient_yes files n p h (Yes m q) k = inl (same_yes Lenient Strict files n p m q h k)
lenient_yes files n p h (Refused refusal) k =
    let same = same_reading files k.1 h.0 k.2 None k.3 h.1.reads in
    elim (k.4) [
      | inl r ↦
          inr (refusal, k, form_refused files n p h refusal (rw same.0 at r))
      | inr r ↦ cc (same.1, r.ended)
    ]

pub between_profiles : BetweenProfiles
between_profiles files n p = (
  strict_yes files n p,
  λ h. let (v, holds) = some_verdict Strict files in lenient_yes files n p h v holds,
)
