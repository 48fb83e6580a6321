-- What is told of a text with the tokens of the theorem's own proof is what is told of that proof.
use Rattle.std.proofs.Common.{◌≡◌, ℕ, List, [], ◌∷◌, ◌++◌, length, true, false}
use Rattle.std.proofs.Common.{inl, inr, refl, subst, arith}
use Rattle.std.proofs.lemmas.List.{map-append}
use Rattle.mm_text.specs.Files.{PlainFile}
use Rattle.mm_base.specs.Statement.{PlainStatement}
use Rattle.mm_text.proofs.Reader.WholeReadings.{readings_are_formed_in_place}
use Rattle.mm_frame.specs.Form.{AllFormed}
use Rattle.mm_frame.specs.Rules.{AllMeant}
use Rattle.mm_frame.specs.Sentence.{Sentence, sentence_of}
use Rattle.mm_frame.proofs.Rules.ObeyedRules.{allmeant_prefix}
use Rattle.mm_step.specs.declared.fault.ProofRule.{ProofRule}
use Rattle.mm_step.specs.declared.profile.Profile.TheVariants.{Lenient}
use Rattle.mm_proof.specs.Tokens.{is_incomplete}
use Rattle.mm_proof.specs.UnderProfile.{IsProvedUnder, IsPrefixAllowedUnder}
use Rattle.mm_proof.proofs.ProofVerdicts.ProfileVerdicts.{one_verdict_under_holds}
use Rattle.mm_proof.proofs.ProofVerdicts.ProfileVerdicts.{one_prefix_verdict_under_holds}
use Rattle.mm_check.specs.AloneLaws.{OwnProofIsTriedAlike, TellAlike}
use Rattle.mm_facts.specs.Explained.{IsTokensFault}
use Rattle.mm_verdict.specs.declared.question.Telling.{Telling}
use Rattle.mm_check.specs.Reply.{IsKnownReply}
use Rattle.mm_explain.specs.Reply.{IsTokensReply}
use Rattle.mm_rules.specs.ProofText.{proof_words}
use Rattle.mm_rules.specs.Verdict.{proof_of, sentences}
use Rattle.mm_rules.proofs.Judgements.JudgedProofs.{prefix_of}
use Rattle.mm_verdict.proofs.Verdicts.OneVerdict.{formed_before}

-- ---- tokens have one verdict

module _ (before : List Sentence) (s : Sentence) (tokens : List (List ℕ)) (meant : AllMeant before)
    (formed : AllFormed before) where
  -- a proof has no fault
  proved_faultless : is_incomplete tokens ≡ false → IsProvedUnder Lenient before s tokens
      → (rule : ProofRule) (step : ℕ) → IsTokensFault Lenient before s tokens rule step → ⊥
  proved_faultless whole proved rule step (inl f) =
      (one_verdict_under_holds Lenient before s tokens meant formed).1 proved rule step f.1
  proved_faultless whole proved rule step (inr f) = cc (whole, f.0)

  -- nor has what is known of one
  known_faultless : is_incomplete tokens ≡ true → IsPrefixAllowedUnder Lenient before s tokens
      → (rule : ProofRule) (step : ℕ) → IsTokensFault Lenient before s tokens rule step → ⊥
  known_faultless some allowed rule step (inl f) = cc (some, f.0)
  known_faultless some allowed rule step (inr f) =
      (one_prefix_verdict_under_holds Lenient before s tokens meant formed).1 allowed rule step f.1

  -- the first fault is one
  one_tokens_fault : (rule rule' : ProofRule) (step step' : ℕ)
      → IsTokensFault Lenient before s tokens rule step
      → IsTokensFault Lenient before s tokens rule' step'
      → (rule ≡ rule') × (step ≡ step')
  one_tokens_fault rule rule' step step' (inl f) (inl g) =
      (one_verdict_under_holds Lenient before s tokens meant formed).2 rule rule' step step' f.1 g.1
  one_tokens_fault rule rule' step step' (inl f) (inr g) = cc (f.0, g.0)
  one_tokens_fault rule rule' step step' (inr f) (inl g) = cc (f.0, g.0)
  one_tokens_fault rule rule' step step' (inr f) (inr g) =
      (one_prefix_verdict_under_holds Lenient before s tokens meant formed).2 rule rule' step step'
      f.1 g.1

-- ---- the two replies

module _ (telling : Telling) (files : List PlainFile) (before : List PlainStatement)
    (s : PlainStatement) (proof : PlainFile) (tried : List ℕ) (tried_status : ℕ)
    (known : List ℕ) (known_status : ℕ)
    (meant : AllMeant (sentences before)) (formed : AllFormed (sentences before))
    (same : proof_words proof.bytes ≡ proof_of s) where
  abbrev Own : ProofRule → ℕ → Type 0
  Own rule step = IsTokensFault Lenient (sentences before) (sentence_of s) (proof_of s) rule step

  own_fault : (rule : ProofRule) (step : ℕ)
      → IsTokensFault Lenient (sentences before) (sentence_of s) (proof_words proof.bytes) rule step
      → Own rule step
  own_fault rule step f =
      subst (λ ts. IsTokensFault Lenient (sentences before) (sentence_of s) ts rule step) same f

  tokens_alike : IsTokensReply proof (sentences before) (sentence_of s) tried tried_status
      → IsKnownReply telling files before s known known_status
      → TellAlike telling files before s proof tried tried_status known known_status
  tokens_alike (inl (whole, proved, told, ends)) (inl (whole', proved', listed, known_ends)) =
      inl (told, ends, listed, known_ends)
  tokens_alike (inl (whole, proved, told, ends)) (inr (inl k)) =
      absurd (cc (whole, same, k.incomplete))
  tokens_alike (inl (whole, proved, told, ends)) (inr (inr k)) =
      absurd (proved_faultless (sentences before) (sentence_of s) (proof_of s) meant formed
      (subst (λ ts. is_incomplete ts ≡ false) same whole)
      (subst (IsProvedUnder Lenient (sentences before) (sentence_of s)) same proved)
      k.rule k.step k.fault)
  tokens_alike (inr (inl t)) (inl (whole, proved, listed, known_ends)) =
      absurd (cc (t.incomplete, same, whole))
  tokens_alike (inr (inl t)) (inr (inl k)) =
      inr (inl (t, k))
  tokens_alike (inr (inl t)) (inr (inr k)) =
      absurd (known_faultless (sentences before) (sentence_of s) (proof_of s) meant formed
      (subst (λ ts. is_incomplete ts ≡ true) same t.incomplete)
      (subst (IsPrefixAllowedUnder Lenient (sentences before) (sentence_of s)) same t.allowed)
      k.rule k.step k.fault)
  tokens_alike (inr (inr t)) (inl (whole, proved, listed, known_ends)) =
      absurd (proved_faultless (sentences before) (sentence_of s) (proof_of s) meant formed whole
      proved t.rule t.step (own_fault t.rule t.step t.fault))
  tokens_alike (inr (inr t)) (inr (inl k)) =
      absurd (known_faultless (sentences before) (sentence_of s) (proof_of s) meant formed
      k.incomplete k.allowed t.rule t.step (own_fault t.rule t.step t.fault))
  tokens_alike (inr (inr t)) (inr (inr k)) =
      let one = one_tokens_fault (sentences before) (sentence_of s) (proof_of s) meant formed
      t.rule k.rule t.step k.step (own_fault t.rule t.step t.fault) k.fault in
      inr (inr (t, k, one.0, one.1))

pub own_proof_is_tried_alike : OwnProofIsTriedAlike
own_proof_is_tried_alike telling files label before s proof tried tried_status known known_status
    there has same (inl (inl (long, told))) known_reply =
    absurd (omega (arith, long, has.taken))
own_proof_is_tried_alike telling files label before s proof tried tried_status known known_status
    there has same (inl (inr fault)) known_reply = absurd (cc (fault.broken, has.faultless))
own_proof_is_tried_alike telling files label before s proof tried tried_status known known_status
    there has same (inr (taken, reply)) known_reply =
    let at = there.0 in
    let meant : AllMeant (sentences before) =
    subst AllMeant
    (prefix_of (sentences (before ++ s ∷ [])) (sentences before) (sentence_of s)
    (map-append sentence_of before (s ∷ [])))
    (allmeant_prefix (sentences (before ++ s ∷ [])) (length (sentences before)) at.meant) in
    let formed : AllFormed (sentences before) =
    formed_before (before ++ s ∷ at.after) before s at.after
    (readings_are_formed_in_place files (before ++ s ∷ at.after) at.ending at.reads).formed refl in
    tokens_alike telling files before s proof tried tried_status known known_status meant formed
    same reply known_reply
