-- All faults of the files: the first is that of the verdict, and each database that can be read has
-- a list of them.
use Rattle.std.proofs.Common.{◌≡◌, ℕ, List, [], ◌∷◌, ◌++◌, length, Option, Some, None, ◌⊎◌, inl}
use Rattle.std.proofs.Common.{inr, refl, ap, append_assoc, append-nil}
use Rattle.std.specs.List.{AllByRecursion}
use Rattle.mm_base.specs.Statement.{PlainStatement, HasForm}
use Rattle.mm_text.specs.Files.{PlainFile}
use Rattle.mm_text.specs.Reading.{PlainFault}
use Rattle.mm_base.proofs.Lists.{all_prefix}
use Rattle.mm_frame.specs.Sentence.{sentence_of}
use Rattle.mm_frame.specs.Rules.{AllMeant, IsMeant}
use Rattle.mm_frame.specs.Form.{AllFormed}
use Rattle.mm_frame.proofs.Rules.ObeyedRules.{allmeant_push}
use Rattle.std.proofs.lemmas.List.{map-append}
use Rattle.mm_step.specs.declared.profile.Profile.{Profile}
use Rattle.mm_rules.specs.declared.rule.Rule.{Rule}
use Rattle.mm_rules.specs.Verdict.{PlainRefusal, Verdict, Load, Refused, Incomplete, Yes, AllObey}
use Rattle.mm_rules.specs.Verdict.{AreAccepted, HasFault, HasVerdict, RefusesStatement, RefusesText}
use Rattle.mm_rules.specs.Verdict.{sentences, refusal_of, text_refusal}
use Rattle.mm_verdict.specs.Faults.{AreRefused, HaveFaults, IsMeaningRefusal}
use Rattle.mm_rules.specs.Faults.{IsProofRefusal}
use Rattle.mm_verdict.specs.Faults.{refusal_in}
use Rattle.mm_verdict.specs.FaultLaws.{FirstFaultIsTold}
use Rattle.mm_verdict.proofs.Verdicts.OneVerdict.{formed_sentences, proof_obeys_or_fails}
use Rattle.mm_verdict.proofs.Verdicts.OneVerdict.{accepted_or_refused}
use Rattle.mm_verdict.proofs.Verdicts.OneVerdict.{one_verdict}
use Rattle.mm_verdict.proofs.Verdicts.RankedRules.{some_meaning}
use Rattle.mm_verdict.proofs.Verdicts.StatementByStatement.{no_statement, one_more}
use Rattle.mm_rules.specs.declared.rule.Rule.TheVariants as rules

-- ## A refusal tells a fault

module _ (profile : Profile) (files : List PlainFile) (before : List PlainStatement)
    (s : PlainStatement) (refusal : PlainRefusal) where
  proof_fault : (r : IsProofRefusal profile files before s refusal)
      → HasFault profile (sentences before) s (rules.Proof r.rule) r.step
  proof_fault r = inr (r.meant, r.rule, r.fault, refl)

  meaning_fault : (r : IsMeaningRefusal files before s refusal)
      → HasFault profile (sentences before) s (rules.Meaning r.rule) 0
  meaning_fault r = inl (r.rule, r.broken, refl, refl)

  refused_first : (left : List PlainStatement) (rule : Rule) (step : ℕ) → AllObey profile before
      → HasFault profile (sentences before) s rule step
      → refusal ≡ refusal_of files (length before) s rule step
      → RefusesStatement profile files (before ++ s ∷ left) refusal
  refused_first left rule step obeyed fault refused = record {
    before = before;
    s = s;
    after = left;
    split = refl;
    obeyed = obeyed;
    rule = rule;
    step = step;
    fault = fault;
    refused = refused;
  }

-- ## The first fault

-- what the list says of its first refusal, after statements that obey the rules
abbrev Opens : Profile → List PlainFile → List PlainStatement → Option PlainFault
    → List PlainRefusal → Type 0
Opens profile files statements ending [] = AllObey profile statements × (ending ≡ None)
Opens profile files statements ending (first ∷ others) =
    RefusesStatement profile files statements first
    ⊎ RefusesText profile files statements ending first

opened : (profile : Profile) (files : List PlainFile) (before left : List PlainStatement)
    (ending : Option PlainFault) (refusals : List PlainRefusal) → AllObey profile before
    → AreRefused profile files before left ending refusals
    → Opens profile files (before ++ left) ending refusals
opened profile files before [] None refusals obeyed e = rw (e, append-nil before) (obeyed, refl)
opened profile files before [] (Some fault) refusals obeyed e =
    rw (e, append-nil before)
    (inr (record { obeyed = obeyed; fault = fault; ended = refl; refused = refl }))
opened profile files before (s ∷ left) ending refusals obeyed (inl h) =
    rw (← append_assoc before (s ∷ []) left)
    (opened profile files (before ++ s ∷ []) left ending refusals
    (one_more profile before s obeyed h.0) h.1)
opened profile files before (s ∷ left) ending refusals obeyed (inr (inl h)) =
    rw h.4
    (inl (refused_first profile files before s h.0 left (rules.Proof h.1.rule) h.1.step obeyed
    (proof_fault profile files before s h.0 h.1) h.1.refused))
opened profile files before (s ∷ left) ending refusals obeyed (inr (inr h)) =
    rw h.2
    (inl (refused_first profile files before s h.0 left (rules.Meaning h.1.rule) 0 obeyed
    (meaning_fault profile files before s h.0 h.1) h.1.refused))

-- the verdict over files in which nothing is at fault tells no refusal
none_told : (profile : Profile) (files : List PlainFile) (statements : List PlainStatement)
    (verdict : Verdict) → AreAccepted profile files statements
    → HasVerdict profile files verdict → None ≡ refusal_in verdict
none_told profile files statements (Load rule) accepted v = refl
none_told profile files statements (Refused refusal) accepted v =
    absurd (accepted_or_refused profile files statements v.1 v.2 refusal accepted v.3 v.4)
none_told profile files statements (Incomplete labels) accepted v = refl
none_told profile files statements (Yes count proofs) accepted v = refl

-- files without a fault are accepted
no_fault : (profile : Profile) (files : List PlainFile) (h : HaveFaults profile files [])
    → AreAccepted profile files h.statements
no_fault profile files h =
    let opens = opened profile files [] h.statements h.ending [] (no_statement profile) h.refused in
    record { readable = h.readable; reads = rw opens.1 at h.reads; obeyed = opens.0 }

-- else the first fault is the verdict
pub first_told : (profile : Profile) (files : List PlainFile) (first : PlainRefusal)
    (others : List PlainRefusal) → HaveFaults profile files (first ∷ others)
    → HasVerdict profile files (Refused first)
first_told profile files first others h = (
  h.readable,
  h.statements,
  h.ending,
  h.reads,
  opened profile files [] h.statements h.ending (first ∷ others) (no_statement profile) h.refused,
)

pub first_fault : FirstFaultIsTold
first_fault profile files [] verdict h v =
    none_told profile files h.statements verdict (no_fault profile files h) v
first_fault profile files (first ∷ others) verdict h v =
    ap refusal_in
    (one_verdict profile files (Refused first) verdict (first_told profile files first others h) v)

-- ## One statement more

-- one more statement breaks no rule of meaning
pub meant_more : (before : List PlainStatement) (s : PlainStatement) → AllMeant (sentences before)
    → IsMeant (sentences before) (sentence_of s) → AllMeant (sentences (before ++ s ∷ []))
meant_more before s earlier meant =
    rw (map-append sentence_of before (s ∷ []))
    (allmeant_push (sentences before) (sentence_of s) earlier meant)

-- what comes before a statement is in form
formed_so_far : (before left : List PlainStatement) → AllByRecursion HasForm (before ++ left)
    → AllFormed (sentences before)
formed_so_far before left formed = formed_sentences before (all_prefix HasForm before left formed)

-- before any statement
pub none_meant : AllMeant (sentences [])
none_meant [] after s e = absurd cc
none_meant (t ∷ before) after s e = absurd cc

-- ## Statements that are read have a list of faults

pub some_of_statements : (profile : Profile) (files : List PlainFile)
    (before left : List PlainStatement) (ending : Option PlainFault)
    → AllMeant (sentences before) → AllByRecursion HasForm (before ++ left)
    → (refusals : List PlainRefusal) × AreRefused profile files before left ending refusals
some_of_statements profile files before [] None earlier formed = ([], refl)
some_of_statements profile files before [] (Some fault) earlier formed =
    (text_refusal files fault ∷ [], refl)
some_of_statements profile files before (s ∷ left) ending earlier formed =
    elim (some_meaning (sentences before) (sentence_of s)) [
      | inl meant ↦
          let rest = some_of_statements profile files (before ++ s ∷ []) left ending
          (meant_more before s earlier meant) (rw (append_assoc before (s ∷ []) left) formed) in
          elim (proof_obeys_or_fails profile before s earlier
          (formed_so_far before (s ∷ left) formed) _ _ refl refl meant) [
            | inl obeys ↦ (rest.0, inl (obeys, rest.1))
            | inr fault ↦
                let first = refusal_of files (length before) s (rules.Proof fault.0) fault.1 in
                let refused : IsProofRefusal profile files before s first = record {
                  meant = meant;
                  rule = fault.0;
                  step = fault.1;
                  fault = fault.2;
                  refused = refl;
                } in
                (first ∷ rest.0, inr (inl (first, refused, rest.0, rest.1, refl)))
          ]
      | inr broken ↦
          let last = refusal_of files (length before) s (rules.Meaning broken.0) 0 in
          let refused : IsMeaningRefusal files before s last = record {
            rule = broken.0;
            broken = broken.1;
            refused = refl;
          } in
          (last ∷ [], inr (inr (last, refused, refl)))
    ]
