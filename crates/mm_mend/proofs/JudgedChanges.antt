-- What the prover says of tokens, and how many bytes these have after a change.
use Rattle.std.proofs.Common.{◌≡◌, ◌∙◌, ℕ, List, length, take, drop, Bool, true, false, refl, ap, sym}
use Rattle.std.proofs.Common.{Option, Some, None, arith, sum_by, IsTrue, MatchOption, ◌↔◌, is_some, not}
use Rattle.std.proofs.Common.{◌++◌}
use Rattle.std.proofs.lemmas.List.{drop-drop}
use Rattle.std.proofs.lemmas.List.Sums.{sum_by-append, sum_by-take-drop}
use Rattle.mm_frame.specs.Rules.{AllMeant}
use Rattle.mm_frame.specs.Sentence.{Sentence}
use Rattle.mm_frame.proofs.Rules.ObeyedRules.{allmeant_prefix}
use Rattle.mm_proof.specs.Answer.{OnRule}
use Rattle.mm_step.specs.declared.fault.ProofFault.{ProofFault}
use Rattle.mm_step.specs.declared.fault.ProofFault.TheVariants as proof_faults
use Rattle.mm_step.specs.declared.fault.ProofRule.{ProofRule}
use Rattle.mm_step.specs.declared.profile.Profile.TheVariants.{Lenient}
use Rattle.mm_proof.specs.UnderProfile.{IsFaultUnder, IsProvedUnder}
use Rattle.mm_proof.proofs.ProofVerdicts.ProfileVerdicts.{proved_excludes}
use Rattle.mm_verdict.specs.Alone.{HasProofTokens}
use Rattle.mm_verdict.specs.Mirror.Reached.{IsUnhanded}
use Rattle.mm_verdict.specs.declared.text.Unhanded.{Unhanded}
use Rattle.mm_verdict.specs.declared.text.Unhanded.TheVariants.{Size, Wrong, Memory}
use Rattle.mm_mend.specs.Mend.{exchanged_at, IsMend}
use Rattle.mm_mend.specs.declared.change.Change.{Change}
use Rattle.mm_mend.specs.declared.change.Change.TheVariants.{Words}

-- ---- the verdict

-- Tokens that have a first fault or are a proof are one exactly where no fault was found.
pub proof_decided : (st : List Sentence) (index : ℕ) (s : Sentence) (tokens : List (List ℕ))
    → AllMeant st → (found : Option (ProofRule × ℕ))
    → MatchOption found (IsProvedUnder Lenient (take index st) s tokens)
    (λ fault. IsFaultUnder Lenient (take index st) s tokens fault.0 fault.1)
    → (b : Bool) → is_some found ≡ not b
    → (IsTrue b) ↔ (IsProvedUnder Lenient (take index st) s tokens)
proof_decided st index s tokens meant None proved true is = (λ _. proved, λ _. refl)
proof_decided st index s tokens meant None proved false is = absurd (cc)
proof_decided st index s tokens meant (Some fault) broken true is = absurd (cc)
proof_decided st index s tokens meant (Some fault) broken false is = (
  λ yes. absurd (cc),
  λ proved. absurd ((proved_excludes Lenient (take index st) s tokens
      (allmeant_prefix st index meant)).0 proved fault.0 fault.1 broken),
)

-- A fault that isn't lack of memory is of its rule and step.
pub rule_told : (A : Type 0) (fault : ProofFault) (P : ProofRule → ℕ → Type 0)
    (found : Option (ProofRule × ℕ))
    → MatchOption found ⊥ (λ f. fault ≡ proof_faults.Rule f.0 f.1)
    → ((rule : ProofRule) (step : ℕ) → fault ≡ proof_faults.Rule rule step → P rule step)
    → MatchOption found A (λ f. P f.0 f.1)
rule_told A fault P None none tells = absurd none
rule_told A fault P (Some f) is tells = tells f.0 f.1 is

pub on_rule_at : (fault : ProofFault) (P : ProofRule → ℕ → Type 0) → OnRule fault P
    → (rule : ProofRule) (step : ℕ) → fault ≡ proof_faults.Rule rule step → P rule step
on_rule_at fault P on rule step is = rw is at on

-- ---- a text

-- A text with a fault of its own has no tokens of a proof.
pub no_tokens : (text : List ℕ) (why : Unhanded) → IsUnhanded text why → (why ≡ Memory → ⊥)
    → HasProofTokens text → ⊥
no_tokens text Size long other has = absurd (omega (arith, long, has.taken))
no_tokens text (Wrong wrong) broken other has =
    let both = sym has.faultless ∙ broken.1 in absurd (cc)
no_tokens text Memory memory other has = other refl

-- ---- what a change of a byte is

module _ (before : List Sentence) (s : Sentence) (tokens : List (List ℕ)) (text : List ℕ) where
  -- Where the exchange of words is a proof, it mends.
  pub words_decided : (b : Bool) (change : Change) (at : ℕ) → change ≡ Words at
      → (IsTrue b) ↔ (IsProvedUnder Lenient before s (exchanged_at at tokens))
      → (IsTrue b) ↔ (IsMend before s tokens text change)
  words_decided b change at is told = rw is told

-- ---- how many bytes there are

-- Words that are exchanged have as many bytes as before.
pub exchanged_room : (at : ℕ) (xs : List (List ℕ))
    → sum_by length (exchanged_at at xs) ≡ sum_by length xs
exchanged_room at xs =
    let f : List ℕ → ℕ = λ x. length x in
    let rest : List (List ℕ) = drop at xs in
    omega (
      arith,
      sum_by-append f (take at xs ++ take 1 (drop 1 rest) ++ take 1 rest) (drop 2 rest),
      sum_by-append f (take at xs ++ take 1 (drop 1 rest)) (take 1 rest),
      sum_by-append f (take at xs) (take 1 (drop 1 rest)),
      sum_by-take-drop f xs at,
      sum_by-take-drop f rest 1,
      sum_by-take-drop f (drop 1 rest) 1,
      ap (λ (l : List (List ℕ)). sum_by f l) (drop-drop 1 1 rest),
    )
