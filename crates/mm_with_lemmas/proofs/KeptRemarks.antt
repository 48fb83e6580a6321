-- What comments and mathboxes say of statements, by the labels of two databases. On this file rests
-- the contract of `are_remarks_kept`.
use Rattle.std.proofs.Common.{◌≡◌, ◌↔◌, ℕ, ◌+◌, ◌<◌, ◌≤◌, Bool, true, List, length, Some, None}
use Rattle.std.proofs.Common.{slice_get, get_or, inl, inr, refl, sym, subst, ◌∙◌, arith, false, not}
use Rattle.std.proofs.lemmas.Bool.{cases_eq}
use mathlib.Core.Bool.{beq}
use Rattle.std.proofs.lemmas.Option.{slice_get-get_or, slice_get_within}
use Rattle.mm_base.specs.Statement.{PlainStatement}
use Rattle.mm_base.proofs.Lists.{one_there}
use Rattle.mm_text.specs.Files.{PlainFile}
use Rattle.mm_text.specs.Reading.{Reads}
use Rattle.mm_frame.specs.Rules.{AllMeant}
use Rattle.mm_frame.specs.Numbers.{labelled_sentences}
use Rattle.mm_frame.specs.Sentence.{Sentence, sentence_of}
use Rattle.mm_frame.proofs.Names.LabelNumbers.{numbered_within}
use Rattle.mm_rules.specs.Answer.{IsKeptOf}
use Rattle.mm_rules.specs.Conclusion.{Conclusion}
use Rattle.mm_rules.specs.Rests.{IsAt, IsNamed}
use Rattle.mm_rules.specs.Verdict.{sentences}
use Rattle.mm_verdict.proofs.Verdicts.AcceptedStatements.{KeptWell, read_statements}
use Rattle.mm_verdict.proofs.Verdicts.StatementByStatement.{all_meant}
use Rattle.mm_minimize.specs.declared.remarks.Remark.{Remark}
use Rattle.mm_minimize.specs.Remarks.{AreRemarks, AreRemarksOf}
use Rattle.mm_with_lemmas.specs.WithLemmas.{AreRemarksKept}
use Rattle.mm_with_lemmas.specs.Mirror.Remarking.{AreAlike, AreAllKept, IsRemarkKept}
use Rattle.mm_with_lemmas.proofs.HeededUses.{named_one}
use Rattle.mm_with_lemmas.proofs.NamedUses.{name_of, named_of, told_of}

-- ---- two remarks

pub same_marks : (b c : Bool) → not (beq b c) ≡ false → b ≡ c
same_marks true true is = refl
same_marks false false is = refl
same_marks true false is = is
same_marks false true is = sym is

-- what is so by the one is so by the other
told_alike : (P Q : Type 0) (b c : Bool) → (b ≡ true) ↔ P → (c ≡ true) ↔ Q → b ≡ c → P ↔ Q
told_alike P Q b c own other same =
    (λ p. other.0 (sym same ∙ own.1 p), λ q. own.0 (same ∙ other.1 q))

pub alike : (own other : Remark) → own.is_discouraged ≡ other.is_discouraged
    → own.is_settled ≡ other.is_settled → own.mathbox ≡ other.mathbox → AreAlike own other
alike own other usage proof mathbox = λ files anew s t said said_too. record {
  usage =
      told_alike _ _ own.is_discouraged other.is_discouraged said.discouraged said_too.discouraged
      usage;
  proof = told_alike _ _ own.is_settled other.is_settled said.settled said_too.settled proof;
  mathbox = sym said.mathbox ∙ mathbox ∙ said_too.mathbox;
}

-- ---- of each number

module _ (old new : List Sentence) (remarks others : List Remark) where
  -- those before a number
  abbrev pub AreKeptTo : ℕ → Type 0
  AreKeptTo end =
      (i : ℕ) (r : Remark) → i < end → slice_get others i ≡ Some r
      → IsRemarkKept old new remarks i r

  -- one more
  pub kept_on : (end : ℕ) (other : Remark) → AreKeptTo end → slice_get others end ≡ Some other
      → IsRemarkKept old new remarks end other → AreKeptTo (end + 1)
  kept_on end other before at last i r less there = elim (cases_eq i end) [
    | inl same ↦
        let is : other ≡ r =
        one_there others end other r at
        (subst (λ (k : ℕ). slice_get others k ≡ Some r) same there) in
        subst (λ (k : ℕ). IsRemarkKept old new remarks k r) (sym same)
        (subst (λ (x : Remark). IsRemarkKept old new remarks end x) is last)
    | inr not ↦ before i r (omega arith) there
  ]

  -- all of them
  pub kept_all : (end : ℕ) → length others ≤ end → AreKeptTo end
      → AreAllKept old new remarks others
  kept_all end past to = λ i r there.
      let less = slice_get_within others i r there in to i r (omega arith) there

-- ---- by what was read

-- a statement with the label, whatever is so of it
named_some : (statements : List PlainStatement) (label : List ℕ) (P : PlainStatement → Type 0)
    (id : ℕ) → IsNamed statements label P id → IsNamed statements label (λ x. Unit {0}) id
named_some statements label P id (index, x, at, (labelled, so)) = (index, x, at, (labelled, tt))

-- the statement that has it
named_at : (statements : List PlainStatement) (label : List ℕ) (id : ℕ) (s : PlainStatement)
    → IsNamed statements label (λ x. x ≡ s) id → (index : ℕ) × IsAt statements id index s
named_at statements label id s (index, x, at, (labelled, is)) =
    (index, subst (λ (y : PlainStatement). IsAt statements id index y) is at)

-- the remark on it
remark_at : (files : List PlainFile) (statements : List PlainStatement) (remarks : List Remark)
    (id index : ℕ) (s : PlainStatement) → AreRemarksOf files statements remarks
    → IsAt statements id index s → (r : Remark) × (slice_get remarks id ≡ Some r)
remark_at files statements remarks id index s said at =
    let within : id < length (labelled_sentences (sentences statements)) =
    numbered_within (sentences statements) id index (sentence_of s) at.numbered in
    let d : Remark = record {
      file = 0;
      mathbox = 0;
      is_discouraged = true;
      is_settled = true;
    } in (
      get_or remarks id d,
      slice_get-get_or remarks id d (subst (λ (n : ℕ). id < n) (sym said.count) within),
    )

-- of all statements
pub kept_of : (c d : Conclusion) (remarks more : List Remark)
    (statements others : List PlainStatement) → IsKeptOf statements c → IsKeptOf others d
    → AllMeant (sentences statements) → AreRemarksOf c.files statements remarks
    → AreRemarksOf d.files others more → AreAllKept c.sentences d.sentences remarks more
    → AreRemarksKept c.files d.files statements others
kept_of c d remarks more statements others kept kept_too meant said said_too all label id n s t
    named named_too =
    let there = named_some statements label (λ x. x ≡ s) id named in
    let (place, at_too) = named_at others label n t named_too in
    let (r, on) = remark_at d.files others more n place t said_too at_too in
    let (former, has, (own, on_own, are)) = all n r on label
    (name_of others d kept_too label n (named_some others label (λ x. x ≡ t) n named_too))
    (told_of statements c kept label id there) in
    let (index, at) = named_one statements label former id s meant
    (named_of statements c kept label former has) named in
    are c.files d.files s t (said.each former index s own at on_own)
    (said_too.each n place t r at_too on)

-- of checked files
pub remarks_kept : (c d : Conclusion) (remarks more : List Remark)
    (statements others : List PlainStatement) → KeptWell c → KeptWell d → AreRemarks c.files remarks
    → AreRemarks d.files more → AreAllKept c.sentences d.sentences remarks more
    → Reads c.files statements None → Reads d.files others None
    → AreRemarksKept c.files d.files statements others
remarks_kept c d remarks more statements others well well_too said said_too all reads reads_too =
    let of = read_statements c statements well.origin reads in
    let of_too = read_statements d others well_too.origin reads_too in
    kept_of c d remarks more statements others of.kept of_too.kept
    (all_meant c.profile statements of.accepted.obeyed) (said statements reads)
    (said_too others reads_too) all
