-- Files in which the proofs of all theorems of one file are written anew: they say what they said,
-- doing so again changes nothing, these proofs have the strict form, and in small form the file is
-- no longer.
use Rattle.std.proofs.Common.{◌≡◌, ℕ, List, [], ◌∷◌, ◌++◌, ◌&&◌, ◌==◌, map, take, drop, length}
use Rattle.std.proofs.Common.{slice_get, true, None, refl, sym, ap, ◌∙◌, Contains}
use Rattle.std.proofs.Common.{slice_range, inl, inr}
use Rattle.std.specs.List.{AllZip, AllByRecursion}
use Rattle.std.proofs.Math.Seq.{take-append_seam}
use Rattle.std.proofs.lemmas.List.Elements.{recursion_from_All, All-contains_itself}
use Rattle.std.proofs.lemmas.List.Folds.{drop_split}
use Rattle.mm_base.specs.Statement.{PlainStatement}
use Rattle.mm_text.specs.Files.{PlainFile}
use Rattle.mm_text.specs.Replaced.{with_bytes}
use Rattle.mm_base.proofs.Lists.{get_parted, all_filtered, at_from_contains, mapped_zip}
use Rattle.mm_frame.specs.Sentence.{Sentence, sentence_of}
use Rattle.mm_frame.proofs.Rules.ObeyedRules.{one_label}
use Rattle.mm_step.specs.declared.profile.Profile.{Profile}
use Rattle.mm_verdict.specs.declared.form.Form.{Form}
use Rattle.mm_verdict.specs.declared.form.Form.TheVariants as form
use Rattle.mm_rules.specs.Verdict.{AreAccepted, AllObey, sentences}
use Rattle.mm_render.specs.Saved.{FitsSaved, within_span}
use Rattle.mm_save.specs.AllSaved.{is_theorem_of, theorems_of, Replacement, IsReplacement}
use Rattle.mm_save.specs.AllSaved.{replaced_from, IsAllSaved}
use Rattle.mm_laws.specs.AllSavedLaws.{SavingAllChangesNoAnswer, SavingAllAgainChangesNothing}
use Rattle.mm_laws.specs.AllSavedLaws.{AllSavedProofsAreStrict, AllSmallFilesDoNotGrow}
use Rattle.mm_verdict.proofs.Verdicts.AcceptedStatements.{said_there, same_reading, one_stands}
use Rattle.mm_verdict.proofs.Verdicts.StatementByStatement.{all_meant}
use Rattle.mm_save.proofs.Saving.FileSpans.{theorem_there, replaced_by}
use Rattle.mm_laws.proofs.SavingLaws.RisingSpans.{theorems_zip, spans_rise}
use Rattle.mm_laws.proofs.SavingLaws.RisingSpans.{Rise}
use Rattle.mm_laws.proofs.SavingLaws.NewProofs.{IsWrittenAs, AreWrittenAs, IsOwnTree, carried}
use Rattle.mm_laws.proofs.SavingLaws.NewProofs.{said_same}
use Rattle.mm_laws.proofs.SavingLaws.OtherStatements.{along_at}
use Rattle.mm_laws.proofs.SavingLaws.ProofsInTurn.{are_all_put, all_no_longer, texts_of}
use Rattle.mm_laws.proofs.SavingLaws.PutProofs.{IsToPut, own_to_put}
use Rattle.mm_verdict.proofs.FileBytes.StatementsInFiles.{Carries, handed_anew}
use Rattle.mm_laws.proofs.SavingLaws.SavedOnce.{HasText, text_carried, one_all_saved}
use Rattle.mm_laws.proofs.SavingLaws.SpanTexts.{span_text_again, small_no_longer}

-- ==== they say what they said

-- small form alone keeps the proof of a theorem of the file
abbrev pub IsKept : Form → ℕ → PlainStatement → Type 0
IsKept f number s = is_theorem_of number s ≡ true → f ≡ form.Small

module _ {profile : Profile} {f : Form} {files : List PlainFile} {statements : List PlainStatement}
    {number : ℕ} {bytes : List ℕ} (accepted : AreAccepted profile files statements)
    (sv : IsAllSaved f files statements number bytes) where
  -- what replaces a proof may be put
  all_to_put : (before : List PlainStatement) (s : PlainStatement) (after : List PlainStatement)
      → statements ≡ before ++ s ∷ after → is_theorem_of number s ≡ true → (new : Replacement)
      → IsReplacement f sv.file.bytes statements s new
      → IsToPut profile f (IsKept f number s) (IsOwnTree (sentences before) s) (sentences before)
      (sentence_of s) (within_span sv.file.bytes s.span) new.text
  all_to_put before s after split is new r =
      let here = one_label (sentences statements) r.label r.index (length before) (sentence_of s)
      (sentence_of s) (all_meant profile statements accepted.obeyed)
      (said_there statements r.index s r.proof.there)
      (said_there statements (length before) s (rw split (get_parted before after s)))
      r.proof.named r.proof.named in
      let prefix : sentences (take r.index statements) ≡ sentences before =
      rw (here, split, take-append_seam before (s ∷ after)) in
      own_to_put profile accepted before s after split f (IsKept f number s)
      (within_span sv.file.bytes s.span) new.text (λ small so. small) r.proof prefix r.laid

  -- the files with all of it are accepted as statements with the new proofs
  pub all_put : FitsSaved files number bytes
      → (same : List PlainStatement) × AreAccepted profile (with_bytes files number bytes) same
      × AreWrittenAs profile (IsKept f number) IsOwnTree [] statements same
      × (texts_of number bytes same ≡ map (λ new. new.text) sv.replaced)
  all_put =
      are_all_put profile f (IsKept f number) IsOwnTree files statements number bytes
      (λ own. IsReplacement f own statements) sv accepted (λ s new r. r.span)
      (λ s other is. absurd cc) all_to_put

pub saving_all_changes_no_answer : SavingAllChangesNoAnswer
saving_all_changes_no_answer profile f files statements number bytes accepted sv fits =
    let (same, still, along, stand) = all_put accepted sv fits in (
      same,
      said_same profile (IsKept f number) statements same along files
          (with_bytes files number bytes) accepted still,
    )

-- ==== saving all proofs of a file again changes nothing

-- ---- the theorems say what they said

abbrev SayAsTheorems : (number : ℕ) → PlainStatement → PlainStatement → Type 0
SayAsTheorems number s t =
    (is_theorem_of number s ≡ is_theorem_of number t) × (sentence_of s ≡ sentence_of t)

written_zip : (profile : Profile) (f : Form) (number : ℕ) (prefix : List Sentence)
    (after later : List PlainStatement)
    → AreWrittenAs profile (IsKept f number) IsOwnTree prefix after later
    → AllZip (SayAsTheorems number) after later
written_zip profile f number prefix [] [] all = tt
written_zip profile f number prefix (s ∷ after) (t ∷ later) all = (
  ((λ i. all.0.proofs i && (all.0.home i == number)), all.0.said),
  written_zip profile f number (prefix ++ sentence_of t ∷ []) after later all.1,
)
written_zip profile f number prefix after later all = absurd all

-- ---- what stands in their spans is put in again

-- in place of what stands in the span of the theorem, the same
abbrev kept_there : (bytes : List ℕ) → PlainStatement → Replacement
kept_there bytes t = record { span = t.span; text = within_span bytes t.span }

-- which changes nothing
all_kept_there : (at : ℕ) (bytes : List ℕ) (theorems : List PlainStatement)
    → Rise at (length bytes) (map (λ t. t.span) theorems)
    → replaced_from at bytes (map (kept_there bytes) theorems) ≡ drop at bytes
all_kept_there at bytes [] rise = refl
all_kept_there at bytes (t ∷ theorems) rise =
    ap (λ (l : List ℕ). slice_range bytes at t.span.0 ++ (within_span bytes t.span ++ l))
    (all_kept_there t.span.1 bytes theorems rise.2)
    ∙ ap (λ (l : List ℕ). slice_range bytes at t.span.0 ++ l)
    (sym (drop_split bytes t.span.0 t.span.1 rise.1))
    ∙ sym (drop_split bytes at t.span.0 rise.0)

-- what stands in the span of the theorem is what was put for it
abbrev StandsAlready : (bytes : List ℕ) → PlainStatement → Replacement → Type 0
StandsAlready bytes t new = within_span bytes t.span ≡ new.text

module _ (profile : Profile) (f : Form) (old bytes : List ℕ)
    (statements others : List PlainStatement) (obeyed : AllObey profile statements)
    (still : AllObey profile others) (carries : Carries statements others) where
  -- it is what is put for it again
  replaced_again : (s t : PlainStatement) (new : Replacement) → sentence_of s ≡ sentence_of t
      → Contains others t → StandsAlready bytes t new → IsReplacement f old statements s new
      → IsReplacement f bytes others t (kept_there bytes t)
  replaced_again s t new said there stands r =
      let (u, has) = text_carried profile f statements others r.label r.index s r.root r.below
      (within_span old s.span) new.text obeyed carries
      (record { proof = r.proof; laid = r.laid }) in
      let (k, here) = at_from_contains others t there in
      let named = sym (ap (λ (x : Sentence). x.label) said) ∙ r.proof.named in
      let same : u ≡ t =
      sym (one_stands others r.label r.index u t (all_meant profile others still) has.proof.there
      has.proof.named (k, here, named)) in
      let own : HasText f others r.label r.index t r.root r.below (within_span old s.span)
      new.text =
      rw same at has in
      replaced_by f bytes own.proof
      (rw stands (span_text_again f _ _ _ (within_span old s.span) new.text own.laid)) refl

  all_replaced_again : (theorems later : List PlainStatement) (news : List Replacement)
      → AllZip (λ s t. sentence_of s ≡ sentence_of t) theorems later
      → AllByRecursion (Contains others) later → AllZip (StandsAlready bytes) later news
      → AllZip (IsReplacement f old statements) theorems news
      → AllZip (IsReplacement f bytes others) later (map (kept_there bytes) later)
  all_replaced_again [] [] news said there stand each = tt
  all_replaced_again (s ∷ theorems) (t ∷ later) [] said there stand each = absurd each
  all_replaced_again (s ∷ theorems) (t ∷ later) (new ∷ news) (own, said) (here, there)
      (stands, stand) (r, each) = (
        replaced_again s t new own here stands r,
        all_replaced_again theorems later news said there stand each,
      )
  all_replaced_again theorems later news said there stand each = absurd said

-- the bytes are what is saved again
saved_again : (profile : Profile) (f : Form) (files : List PlainFile)
    (statements same : List PlainStatement) (number : ℕ) (bytes : List ℕ)
    (accepted : AreAccepted profile files statements)
    (sv : IsAllSaved f files statements number bytes)
    → AreAccepted profile (with_bytes files number bytes) same
    → AreWrittenAs profile (IsKept f number) IsOwnTree [] statements same
    → texts_of number bytes same ≡ map (λ new. new.text) sv.replaced
    → IsAllSaved f (with_bytes files number bytes) same number bytes
saved_again profile f files statements same number bytes accepted sv still along stand =
    let theorems : List PlainStatement = theorems_of number same in
    let there = handed_anew files number sv.file bytes sv.handed in
    let own : PlainFile = record sv.file { bytes = bytes } in
    let Says : PlainStatement → PlainStatement → Type 0 = λ s t. sentence_of s ≡ sentence_of t in
    let said : AllZip Says (theorems_of number statements) theorems =
    theorems_zip number (SayAsTheorems number) Says (λ s t both. both.0) (λ s t is both. both.1)
    statements same (written_zip profile f number [] statements same along) in
    let among : AllByRecursion (Contains same) theorems =
    all_filtered (Contains same) (is_theorem_of number) same
    (recursion_from_All (Contains same) same (All-contains_itself same)) in
    let rise = spans_rise (with_bytes files number bytes) same number own still.reads there in
    record {
      file = own;
      handed = there;
      replaced = map (kept_there bytes) theorems;
      each = all_replaced_again profile f sv.file.bytes bytes statements same accepted.obeyed
          still.obeyed (carried profile (IsKept f number) statements same along)
          (theorems_of number statements) theorems sv.replaced said among
          (mapped_zip (λ t. within_span bytes t.span) (λ new. new.text) (StandsAlready bytes)
          (λ t new is. is) theorems sv.replaced stand) sv.each;
      whole = sym (all_kept_there 0 bytes theorems rise);
    }

pub saving_all_again_changes_nothing : SavingAllAgainChangesNothing
saving_all_again_changes_nothing profile f files statements same number bytes accepted sv fits reads
    =
    let anew : List PlainFile = with_bytes files number bytes in
    let (su, still, along, stand) = all_put accepted sv fits in
    let read = (same_reading anew same su None None reads still.reads).0 in
    let own = saved_again profile f files statements su number bytes accepted sv still along stand
    in (
      rw read own,
      λ others sw. sym (one_all_saved profile f anew su number bytes others still own
          (rw read at sw)),
    )

-- ==== in small form the file is no longer

pub all_small_no_longer : AllSmallFilesDoNotGrow
all_small_no_longer profile files statements number bytes accepted sv = (
  sv.file,
  sv.handed,
  all_no_longer profile form.Small (IsKept form.Small number) IsOwnTree files statements number
      bytes (λ own. IsReplacement form.Small own statements) sv accepted (λ s new r. r.span)
      (λ s new r. small_no_longer _ _ _ (within_span sv.file.bytes s.span) new.text r.laid),
)

-- ==== the proofs that saving whole files puts in have the strict form

pub all_saved_proofs_are_strict : AllSavedProofsAreStrict
all_saved_proofs_are_strict profile f files statements same number bytes accepted sv fits reads
    label index s theorem home =
    let (su, still, along, stand) = all_put accepted sv fits in
    let read : same ≡ su =
    (same_reading (with_bytes files number bytes) same su None None reads still.reads).0 in
    let there = ap (λ (ss : List PlainStatement). slice_get ss index) (sym read) ∙ theorem.there in
    let (t, here, is) = along_at (IsWrittenAs profile (IsKept f number) IsOwnTree) [] statements su
    along index s there in
    elim is.proof [
      | inl (keep, kept) ↦
          inr (
            keep (theorem_there number t (is.proofs ∙ theorem.complete) (is.home ∙ home)),
            t,
            here,
            kept,
          )
      | inr (complete, new) ↦ inl (rw read new.strict)
    ]
