-- A statement that was there, and another proof of it.
use Rattle.std.proofs.Common.{◌≡◌, ℕ, List, ◌∷◌, ◌++◌, take, length, true, is_some, sym, ap}
use Rattle.std.proofs.Common.{subst, ◌∙◌, not}
use Rattle.std.proofs.Math.Seq.{take-append_seam}
use Rattle.mm_base.specs.Statement.{PlainStatement}
use Rattle.mm_frame.specs.Numbers.{IsNumbered}
use Rattle.mm_frame.specs.Sentence.{Sentence, sentence_of}
use Rattle.mm_step.specs.Steps.{IsProofNumber}
use Rattle.mm_step.specs.declared.profile.Profile.TheVariants.{Strict}
use Rattle.mm_proof.specs.Parsed.{OfProof}
use Rattle.mm_proof.specs.Strict.{HasFormOf, IsStrict}
use Rattle.mm_proof.specs.Tokens.{is_incomplete}
use Rattle.mm_rules.specs.Verdict.{is_proof, proof_of, sentences}
use Rattle.mm_rules.proofs.Judgements.JudgedProofs.{labelled_said}
use Rattle.mm_verdict.proofs.Questions.AskedTheorems.{map-take}
use Rattle.mm_verdict.proofs.Questions.TheoremsAgain.{at_next, said_label}
use Rattle.mm_verdict.proofs.Verdicts.StatementByStatement.{provable_kind}
use Rattle.mm_with_lemmas.specs.Mirror.Walking.{IsNext}

module _ (told : List Sentence) (id : ℕ) (before : List PlainStatement) (s : PlainStatement)
    (next : IsNext told id before s) where
  -- the sentences before it
  sentences_before : take (length before) told ≡ sentences before
  sentences_before =
      ap (take (length before)) next.same ∙ sym (map-take (length before) (before ++ s ∷ next.after))
      ∙ ap sentences (take-append_seam before (s ∷ next.after))

  -- a theorem has the number
  pub theorem_number : is_proof s ≡ true → IsProofNumber told id (length before) (sentence_of s)
  theorem_number complete =
      let provable = provable_kind s.kind (not (is_incomplete (proof_of s))) complete in
      let labelled : is_some s.label ≡ true =
      sym (said_label s.label) ∙ labelled_said s.kind s.label next.formed.label provable in
      record {
        numbered = subst (λ (ss : List Sentence). IsNumbered ss id (length before) (sentence_of s))
            (sym next.same)
            (subst (λ (n : ℕ). IsNumbered (sentences (before ++ s ∷ next.after)) n (length before)
            (sentence_of s)) (sym next.number) (at_next before next.after s labelled).numbered);
        provable = provable;
      }

  -- and its proof is strict if it has the strict form as that of the number
  pub strict_there : is_proof s ≡ true
      → OfProof told id (λ index t. HasFormOf Strict (take index told) t (proof_of s))
      → IsStrict (sentences before) (sentence_of s) (proof_of s)
  strict_there complete form =
      subst (λ (ss : List Sentence). IsStrict ss (sentence_of s) (proof_of s)) sentences_before
      (form (length before) (sentence_of s) (theorem_number complete))
