-- One proof is put in for another: what may be put, and how the files are read then.
use Rattle.std.proofs.Common.{◌≡◌, ℕ, ◌+◌, ◌⊎◌, List, [], ◌∷◌, ◌++◌, map, take, length, slice_get}
use Rattle.std.proofs.Common.{true, Some, None, inl, inr, refl, sym, ap, subst, ◌∙◌, arith}
use Rattle.std.specs.List.{AllZip}
use Rattle.std.proofs.Math.Seq.{take-append_seam}
use Rattle.mm_base.specs.declared.statement.Kind.TheVariants.{Provable}
use Rattle.mm_base.specs.Statement.{PlainStatement}
use Rattle.mm_text.specs.Files.{PlainFile}
use Rattle.mm_text.specs.Reading.{Reads}
use Rattle.mm_text.specs.Replaced.{placeless, with_span, with_bytes, IsProofSpan, IsMoved}
use Rattle.mm_text.proofs.Reader.WholeReadings.{readings_are_formed_in_place}
use Rattle.mm_text.proofs.Replaced.ReplacedFiles.{replaced_proofs_are_read_holds}
use Rattle.mm_text.proofs.Replaced.ProofSpans.{proofs_stand_in_spans_holds}
use Rattle.mm_frame.specs.Sentence.{Sentence, sentence_of}
use Rattle.mm_frame.specs.Rules.{AllMeant}
use Rattle.mm_frame.specs.Form.{AllFormed}
use Rattle.mm_step.specs.Tree.{Trees, none, tree, AnyExpression, DeriveAll}
use Rattle.mm_step.specs.Proof.{IsWithin}
use Rattle.mm_step.specs.declared.profile.Profile.{Profile}
use Rattle.mm_step.specs.Profiles.{limit_of}
use Rattle.mm_step.proofs.ProofSteps.Derivations.{derive_fits}
use Rattle.mm_verdict.specs.declared.form.Form.{Form}
use Rattle.mm_verdict.specs.declared.form.Form.TheVariants as form
use Rattle.mm_rules.specs.Verdict.{AreAccepted, sentences, proof_of, is_proof}
use Rattle.mm_render.specs.Forms.{HasProofTree}
use Rattle.mm_render.specs.Saved.{IsSpanText, within_span}
use Rattle.mm_verdict.proofs.Verdicts.OneVerdict.{formed_before}
use Rattle.mm_rules.proofs.Judgements.CompleteProofs.{proof_there}
use Rattle.mm_verdict.proofs.Verdicts.StatementByStatement.{proof_not_unproved}
use Rattle.mm_laws.proofs.SavingLaws.ProofTexts.{ReadsAsProof, span_reads, tree_derives, tree_is}
use Rattle.mm_verdict.proofs.FileBytes.StatementsInFiles.{provable_proof, put_anew, with_bytes_own}
use Rattle.mm_laws.proofs.SavingLaws.AnyNewProof.{new_proof}
use Rattle.mm_verdict.proofs.FileBytes.StatementsInFiles.{prefix_meant}
use Rattle.mm_laws.proofs.SavingLaws.SpanTexts.{kept_span, kept_long}
use Rattle.mm_laws.proofs.SavingLaws.NewProofs.{IsWrittenAs, IsOwnTree, written_same}

-- What may be put in place of the old bytes of a statement's proof, behind these: they themselves,
-- where they may be kept; or in this form the proof of a tree that may stand there.
abbrev pub IsToPut : Profile → Form → (Keep : Type 0) → (May : Trees → Type 0) → List Sentence
    → Sentence → (old put : List ℕ) → Type 0
IsToPut profile f Keep May prefix s old put =
    (Keep × (put ≡ old))
    ⊎ ((f ≡ form.Small → Keep) × (root : List ℕ) × (below : Trees) × May (tree root below none)
    × DeriveAll (IsWithin (limit_of profile)) prefix (tree root below none) (s.symbols ∷ [])
    × IsSpanText f prefix s (tree root below none) old put)

abbrev pub files_anew : List PlainFile → PlainStatement → PlainFile → List ℕ → List PlainFile
files_anew files s file put = with_bytes files s.first.file (with_span file.bytes s.span put)

-- The files with what is put read so: another statement stands in place of the one, and its span is
-- that of what was put.
pub record ArePutAnew (files : List PlainFile) (before : List PlainStatement) (s : PlainStatement)
    (after : List PlainStatement) (file : PlainFile) (put : List ℕ)
    (Written : PlainStatement → Type 0) : Type 0 where
  pub t : PlainStatement
  pub later : List PlainStatement
  pub reads : Reads (files_anew files s file put) (before ++ t ∷ later) None
  pub same : map placeless after ≡ map placeless later
  pub moved : AllZip (λ u v. u.kind ≡ Provable
      → IsMoved s.first.file s.span.1 (s.span.0 + length put) u v) after later
  pub span : t.span ≡ (s.span.0, s.span.0 + length put)
  pub written : Written t

-- where bytes end where they ended, what stands behind them is where it was
moved_nowhere : (number end other_end : ℕ) (after : List PlainStatement) → end ≡ other_end
    → AllZip (λ u v. u.kind ≡ Provable → IsMoved number end other_end u v) after after
moved_nowhere number end other_end [] same = tt
moved_nowhere number end other_end (u ∷ after) same = (
  λ provable. record {
    home = refl;
    elsewhere = λ other. refl;
    start = λ home. omega (arith, same);
    stop = λ home. omega (arith, same);
  },
  moved_nowhere number end other_end after same,
)

module _ (profile : Profile) (f : Form) (Keep : PlainStatement → Type 0)
    (May : List Sentence → PlainStatement → Trees → Type 0) (files : List PlainFile)
    (before : List PlainStatement) (s : PlainStatement) (after : List PlainStatement)
    (file : PlainFile) (put : List ℕ) (reads : Reads files (before ++ s ∷ after) None)
    (complete : is_proof s ≡ true) (handed : slice_get files s.first.file ≡ Some file) where
  abbrev IsPut : Type 0
  IsPut =
      ArePutAnew files before s after file put (IsWrittenAs profile Keep May (sentences before) s)

  pub stands : IsProofSpan s file.bytes
  stands =
      proofs_stand_in_spans_holds files before s after None file reads (provable_proof s complete)
      handed

  -- with a new proof
  put_new : (root : List ℕ) (below : Trees) → May (sentences before) s (tree root below none)
      → DeriveAll (IsWithin (limit_of profile)) (sentences before) (tree root below none)
      ((sentence_of s).symbols ∷ [])
      → ReadsAsProof (sentences before) (sentence_of s) root below put → IsPut
  put_new root below may derived ra =
      let t : PlainStatement = put_anew s put in
      let provable = provable_proof s complete in
      let read = replaced_proofs_are_read_holds files before s after file put reads provable handed
      ra.is_text in
      let (whole, new) = new_proof profile (May (sentences before) s) (sentences before) s root
      below put may derived ra in
      let there : is_proof t ≡ true = proof_there t provable whole in
      record {
        t = t;
        later = read.later;
        reads = read.reads;
        same = read.same;
        moved = read.moved;
        span = refl;
        written = record {
          said = refl;
          home = refl;
          proofs = complete ∙ sym there;
          unproved = proof_not_unproved s complete ∙ sym (proof_not_unproved t there);
          proof = inr (complete, new);
        };
      }

  -- with the bytes that stood there, the files are as they were
  put_old : Keep s → put ≡ within_span file.bytes s.span → IsPut
  put_old keep is =
      let same : files ≡ files_anew files s file put =
      sym ((λ i. files_anew files s file (is i))
      ∙ ap (with_bytes files s.first.file) (kept_span s file.bytes stands)
      ∙ with_bytes_own files s.first.file file handed) in
      let long : s.span ≡ (s.span.0, s.span.0 + length put) =
      rw is (kept_long s file.bytes stands) in
      record {
        t = s;
        later = after;
        reads = subst (λ (fs : List PlainFile). Reads fs (before ++ s ∷ after) None) same reads;
        same = refl;
        moved = moved_nowhere s.first.file s.span.1 (s.span.0 + length put) after
            (ap (λ (n : ℕ × ℕ). n.1) long);
        span = long;
        written = written_same profile Keep May (sentences before) s s refl refl refl keep;
      }

  pub are_put_anew : AllMeant (sentences before) → AllFormed (sentences before)
      → IsToPut profile f (Keep s) (May (sentences before) s) (sentences before) (sentence_of s)
      (within_span file.bytes s.span) put
      → IsPut
  are_put_anew meant formed (inl (keep, is)) = put_old keep is
  are_put_anew meant formed (inr (keep, root, below, may, derived, laid)) =
      let fit = derive_fits (IsWithin (limit_of profile)) (sentences before)
      (tree root below none) ((sentence_of s).symbols ∷ []) derived in
      span_reads f (sentences before) (sentence_of s) root below (within_span file.bytes s.span) put
      meant formed fit laid (put_new root below may derived)
      (λ (small, is). put_old (keep small) is)

-- ---- the statements before it

module _ (profile : Profile) {files : List PlainFile} {statements : List PlainStatement}
    (accepted : AreAccepted profile files statements) (before : List PlainStatement)
    (s : PlainStatement) (after : List PlainStatement)
    (split : statements ≡ before ++ s ∷ after) where
  pub meant_there : AllMeant (sentences before)
  meant_there =
      rw (split, take-append_seam before (s ∷ after)) at
      (prefix_meant profile statements (length before) accepted.obeyed)

  pub formed_there : AllFormed (sentences before)
  formed_there =
      formed_before statements before s after
      (readings_are_formed_in_place files statements None accepted.reads).formed split

  -- the proof of a theorem's own tree may be put
  pub own_to_put : (f : Form) (Keep : Type 0) {label : List ℕ} {index : ℕ} {root : List ℕ}
      {below : Trees} (old put : List ℕ) → (f ≡ form.Small → Keep)
      → HasProofTree statements label index s root below
      → sentences (take index statements) ≡ sentences before
      → IsSpanText f (sentences (take index statements)) (sentence_of s) (tree root below none) old
      put
      → IsToPut profile f Keep (IsOwnTree (sentences before) s) (sentences before) (sentence_of s)
      old put
  own_to_put f Keep {root = root} {below = below} old put keep has prefix laid =
      let Fits : List (List ℕ) → Type 0 = IsWithin (limit_of profile) in
      let told = rw prefix at has.told in
      let made = rw prefix at has.made in
      let under = (accepted.obeyed before after s split).proved has.complete in
      inr (
        keep,
        root,
        below,
        (λ p. tree_is AnyExpression (sentences before) (sentence_of s) (proof_of s) has.moves root
            below meant_there p told made),
        tree_derives Fits (sentences before) (sentence_of s) (proof_of s) has.moves root below
            meant_there under.1 told made,
        rw prefix at laid,
      )
