-- The text of any tree that derives what the statement says, within the limit of the profile.
use Rattle.std.proofs.Common.{◌≡◌, ℕ, List, sym, ap}
use Rattle.std.proofs.Common.{subst, ◌∙◌, ◌∷◌}
use Rattle.std.proofs.Common.{[]}
use Rattle.std.proofs.Common.{false}
use Rattle.mm_base.specs.Statement.{PlainStatement}
use Rattle.mm_frame.specs.Sentence.{Sentence, sentence_of}
use Rattle.mm_step.specs.Tree.{Trees, none, tree, AnyExpression, DeriveAll}
use Rattle.mm_step.specs.Proof.{IsWithin}
use Rattle.mm_proof.specs.Tokens.{is_incomplete}
use Rattle.mm_rules.specs.Verdict.{proof_of}
use Rattle.mm_step.specs.declared.profile.Profile.{Profile}
use Rattle.mm_code.proofs.ReadBack.{texts_in}
use Rattle.mm_step.specs.Profiles.{limit_of}
use Rattle.mm_proof.proofs.ProofVerdicts.VerdictLaws.{derive_any}
use Rattle.mm_laws.proofs.SavingLaws.ProofTexts.{fine_complete, ReadsAsProof}
use Rattle.mm_verdict.proofs.FileBytes.StatementsInFiles.{IsNewProof, form_of_strict, put_anew}

-- the text of any tree that derives what the statement says, within the profile's limit
pub new_proof : (profile : Profile) (May : Trees → Type 0) (prefix : List Sentence)
    (s : PlainStatement) (root : List ℕ) (below : Trees) (put : List ℕ)
    → May (tree root below none)
    → DeriveAll (IsWithin (limit_of profile)) prefix (tree root below none)
    ((sentence_of s).symbols ∷ [])
    → ReadsAsProof prefix (sentence_of s) root below put
    → (is_incomplete (proof_of (put_anew s put)) ≡ false)
    × IsNewProof profile May prefix (sentence_of s) (proof_of (put_anew s put))
new_proof profile May prefix s root below put may derived ra =
    let Fits : List (List ℕ) → Type 0 = IsWithin (limit_of profile) in
    let tokens : proof_of (put_anew s put) ≡ ra.tokens =
    texts_in s.first.file s.span.0 put ∙ ra.read in
    let any = ra.proves AnyExpression (derive_any Fits prefix (tree root below none) _ derived) in
    let new : IsNewProof profile May prefix (sentence_of s) ra.tokens = record {
      strict = ra.strict;
      under = (
        form_of_strict profile prefix (sentence_of s) ra.tokens ra.strict,
        (ra.proves Fits derived).0,
      );
      proof = any.0;
      may = subst May (sym any.1) may;
    } in
    (ap is_incomplete tokens ∙ fine_complete ra.tokens ra.fine, rw tokens new)
