-- Files in which the theorems of one file have shorter proofs: each may be put, the file doesn't
-- grow, and the files are accepted.
use Rattle.std.proofs.Common.{◌≡◌, ℕ, ◌≤◌, List, [], ◌∷◌, ◌++◌, take, length, slice_get, Bool, true}
use Rattle.std.proofs.Common.{Some, inl, inr, sym, ap, ◌∙◌, arith}
use Rattle.std.proofs.Math.Seq.{take-append_seam}
use Rattle.mm_base.specs.Statement.{PlainStatement}
use Rattle.mm_text.specs.Files.{PlainFile, total_bytes}
use Rattle.mm_text.specs.Replaced.{with_bytes}
use Rattle.mm_base.proofs.Lists.{get_parted}
use Rattle.mm_frame.specs.Sentence.{Sentence, sentence_of}
use Rattle.mm_frame.proofs.Rules.ObeyedRules.{one_label}
use Rattle.mm_step.specs.declared.profile.Profile.{Profile}
use Rattle.mm_step.specs.Profiles.{limit_of}
use Rattle.mm_step.specs.Proof.{IsWithin}
use Rattle.mm_step.specs.Tree.{Trees, DeriveAll}
use Rattle.mm_step.proofs.ProofSteps.Derivations.{single_derives}
use Rattle.mm_verdict.specs.declared.form.Form.TheVariants as form
use Rattle.mm_rules.specs.Verdict.{AreAccepted, sentences}
use Rattle.mm_render.specs.Saved.{FitsSaved, IsSpanText, within_span}
use Rattle.mm_save.specs.AllSaved.{is_theorem_of, Replacement}
use Rattle.mm_minimize.specs.AllShorter.{IsShortened, IsAllShortened}
use Rattle.mm_laws.specs.AllShorterLaws.{IsShorterTreeOf, ShortenedFilesDoNotGrow}
use Rattle.mm_verdict.proofs.Verdicts.AcceptedStatements.{said_there, within_limit}
use Rattle.mm_verdict.proofs.Verdicts.StatementByStatement.{all_meant}
use Rattle.mm_save.proofs.Saving.FileSpans.{theorem_home}
use Rattle.mm_laws.proofs.SavingLaws.NewProofs.{AreWrittenAs, IsAny}
use Rattle.mm_laws.proofs.SavingLaws.ProofsInTurn.{are_all_put, all_no_longer}
use Rattle.mm_laws.proofs.SavingLaws.PutProofs.{IsToPut}
use Rattle.mm_verdict.proofs.FileBytes.StatementsInFiles.{with_bytes_is, replaced_at}
use Rattle.mm_laws.proofs.SavingLaws.SpanTexts.{small_no_longer}

-- the tree is a shorter one of a statement in the file with the number
abbrev pub IsShorterThere : Profile → List PlainFile → List PlainStatement → (number : ℕ)
    → List Sentence → PlainStatement → Trees → Type 0
IsShorterThere profile files statements number prefix s t =
    (s.first.file ≡ number) × IsShorterTreeOf profile files statements s t

module _ {profile : Profile} {duplicates : Bool} {files : List PlainFile}
    {statements : List PlainStatement} {number : ℕ} {bytes : List ℕ}
    (accepted : AreAccepted profile files statements)
    (sv : IsAllShortened profile duplicates files statements number bytes) where
  abbrev Shortened : PlainStatement → Replacement → Type 0
  Shortened = IsShortened profile duplicates files statements sv.file.bytes

  -- what replaces a proof may be put
  shorter_to_put : (before : List PlainStatement) (s : PlainStatement)
      (after : List PlainStatement) → statements ≡ before ++ s ∷ after
      → is_theorem_of number s ≡ true → (new : Replacement) → Shortened s new
      → IsToPut profile form.Small (IsAny s)
      (IsShorterThere profile files statements number (sentences before) s) (sentences before)
      (sentence_of s) (within_span sv.file.bytes s.span) new.text
  shorter_to_put before s after split is new (span, inl kept) = inl (tt, kept)
  shorter_to_put before s after split is new (span, inr (label, named, p)) =
      let sh = p.shorter in
      let Fits : List (List ℕ) → Type 0 = IsWithin (limit_of profile) in
      let there : slice_get statements (length before) ≡ Some s =
      rw split (get_parted before after s) in
      let here : sh.index ≡ length before =
      one_label (sentences statements) label sh.index (length before) (sentence_of sh.s)
      (sentence_of s) (all_meant profile statements accepted.obeyed)
      (said_there statements sh.index sh.s sh.own.there)
      (said_there statements (length before) s there) sh.own.named named in
      let one : Some sh.s ≡ Some s = sym sh.own.there ∙ ap (slice_get statements) here ∙ there in
      let same : sh.s ≡ s = cc in
      let prefix : sentences (take sh.index statements) ≡ sentences before =
      rw (here, split, take-append_seam before (s ∷ after)) in
      let derived : DeriveAll Fits (sentences before) p.t ((sentence_of s).symbols ∷ []) =
      rw (prefix, same) at sh.derived in
      let laid : IsSpanText form.Small (sentences before) (sentence_of s) p.t
      (within_span sv.file.bytes s.span) new.text = rw (prefix, same) at p.laid in
      let (root, below, single) = single_derives Fits (sentences before) p.t (sentence_of s).symbols
      derived in
      let shorter : IsShorterThere profile files statements number (sentences before) s p.t =
      (theorem_home number s is, (label, named, p.own, p.is_own, p.text, sh)) in
      inr (
        (λ small. tt),
        root,
        below,
        rw single at shorter,
        rw single at derived,
        rw single at laid,
      )

  -- ==== the file doesn't grow

  shortened_no_longer : length bytes ≤ length sv.file.bytes
  shortened_no_longer =
      all_no_longer profile form.Small IsAny (IsShorterThere profile files statements number) files
      statements number bytes (IsShortened profile duplicates files statements) sv accepted
      (λ s new r. r.0) (λ s new r. elim r.1 [
        | inl kept ↦ omega (arith, ap length kept)
        | inr (label, named, p) ↦
            small_no_longer _ _ _ (within_span sv.file.bytes s.span) new.text p.laid
      ])

  -- so the files don't pass the limit on bytes
  shortened_fits : FitsSaved files number bytes
  shortened_fits =
      omega (
        arith,
        shortened_no_longer,
        within_limit files accepted.readable,
        replaced_at files number sv.file (record sv.file { bytes = bytes }) sv.handed,
        ap total_bytes (with_bytes_is files number sv.file bytes sv.handed),
      )

  -- ==== they are accepted

  pub all_shortened_put : (same : List PlainStatement)
      × AreAccepted profile (with_bytes files number bytes) same
      × AreWrittenAs profile IsAny (IsShorterThere profile files statements number) [] statements
      same
  all_shortened_put =
      let (same, still, along, stand) = are_all_put profile form.Small IsAny
      (IsShorterThere profile files statements number) files statements number bytes
      (IsShortened profile duplicates files statements) sv accepted (λ s new r. r.0)
      (λ s other. tt) shorter_to_put shortened_fits in
      (same, still, along)

pub all_shortened_no_longer : ShortenedFilesDoNotGrow
all_shortened_no_longer profile duplicates files statements number bytes accepted sv =
    (sv.file, sv.handed, shortened_no_longer accepted sv)
