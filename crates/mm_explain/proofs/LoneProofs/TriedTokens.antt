-- What tokens are as a proof of a `$p`, by the moves that they say, or that their known prefix
-- says.
use Rattle.std.proofs.Common.{◌≡◌, ℕ, List, take, Bool, true, false, cond, inl, inr, refl}
use Rattle.mm_frame.specs.Sentence.{Sentence}
use Rattle.mm_step.specs.declared.fault.ProofFault.{ProofFault}
use Rattle.mm_step.specs.declared.fault.ProofFault.TheVariants as proof_faults
use Rattle.mm_step.specs.declared.fault.ProofRule.{ProofRule}
use Rattle.mm_step.specs.declared.profile.Profile.TheVariants.{Lenient}
use Rattle.mm_proof.specs.Answer.{OnRule}
use Rattle.mm_proof.specs.CheckedPrefix.{checked_prefix, Pass}
use Rattle.mm_step.specs.Moves.{Move}
use Rattle.mm_proof.specs.Parsed.{OfProof}
use Rattle.mm_step.specs.Profiles.{limit_of}
use Rattle.mm_proof.specs.Proof.{IsWhole, IsMoveFault, IsMovesFault, Prove}
use Rattle.mm_step.specs.Proof.{IsWithin}
use Rattle.mm_step.specs.Steps.{IsProofNumber}
use Rattle.mm_proof.specs.Strict.{IsTextFault}
use Rattle.mm_proof.specs.Tokens.{is_incomplete, IsIncomplete, SayMoves}
use Rattle.mm_facts.specs.Explained.{IsTokensFault}
use Rattle.mm_explain.specs.Mirror.Reached.{AreTried, tried_as}

-- a fault is told of its rule and its step
pub on_rule : (e : ProofFault) (P : ProofRule → ℕ → Type 0)
    → ((rule : ProofRule) (step : ℕ) → e ≡ proof_faults.Rule rule step → P rule step) → OnRule e P
on_rule (proof_faults.Rule rule step) P tells = tells rule step refl
on_rule proof_faults.Memory P tells = tt

-- what isn't incomplete is complete
pub is_complete : (b : Bool) → ¬ (b ≡ true) → b ≡ false
is_complete true not = absurd (not refl)
is_complete false not = refl

not_true : (b : Bool) → b ≡ false → ¬ (b ≡ true)
not_true b e f = cc

-- a rule over the tokens that are judged is broken
pub tokens_fault : (st : List Sentence) (id : ℕ) (tokens : List (List ℕ)) (rule : ProofRule)
    (step : ℕ) → (index : ℕ) × (s : Sentence) × IsProofNumber st id index s
    → (¬ (IsIncomplete tokens) → OfProof st id (λ index s. (step ≡ 0)
    × IsTextFault Lenient (take index st) s tokens rule))
    → (IsIncomplete tokens → OfProof st id (λ index s. (step ≡ 0)
    × IsTextFault Lenient (take index st) s (checked_prefix tokens) rule))
    → (b : Bool) → is_incomplete tokens ≡ b
    → (step ≡ 0)
    × OfProof st id (λ index s. IsTokensFault Lenient (take index st) s tokens rule step)
tokens_fault st id tokens rule step (index, s, number) whole prefix true e =
    ((prefix e index s number).0, λ i t n. inr (e, inl (prefix e i t n)))
tokens_fault st id tokens rule step (index, s, number) whole prefix false e =
    let not = not_true (is_incomplete tokens) e in
    ((whole not index s number).0, λ i t n. inl (e, inl (whole not i t n)))

-- The tokens that are judged break no rule over the whole of them, and say the moves.
abbrev pub SayJudged : List Sentence → Sentence → (tokens : List (List ℕ))
    → List (Move (List ℕ)) → Type 0
SayJudged before s tokens moves = IsWhole before tokens × SayMoves before s tokens moves

-- the judged tokens, where it is known whether a step is unknown
abbrev pub judged_where : Bool → List (List ℕ) → List (List ℕ)
judged_where b tokens = cond b (checked_prefix tokens) tokens

module _ (before : List Sentence) (s : Sentence) (tokens : List (List ℕ))
    (moves : List (Move (List ℕ))) where
  abbrev pub Fits : List (List ℕ) → Type 0
  Fits = IsWithin (limit_of Lenient)

  -- the moves fail
  pub moves_fault : (b : Bool) → is_incomplete tokens ≡ b
      → SayJudged before s (judged_where b tokens) moves → (rule : ProofRule) (step : ℕ)
      → (b ≡ false → IsMovesFault Fits before s moves rule step)
      → (b ≡ true → IsMoveFault Fits before moves rule step)
      → IsTokensFault Lenient before s tokens rule step
  moves_fault false e said rule step whole prefix =
      inl (e, inr (said.0, tt, moves, said.1, whole refl))
  moves_fault true e said rule step whole prefix =
      inr (e, inr (said.0, tt, moves, said.1, prefix refl))

  -- they are a proof, or pass
  pub moves_tried : (b : Bool) → is_incomplete tokens ≡ b
      → SayJudged before s (judged_where b tokens) moves
      → (b ≡ false → Prove Fits before s moves) → (b ≡ true → Pass Fits before moves)
      → AreTried before s tokens (tried_as b)
  moves_tried false e said proves passes =
      (e, (tt, record { whole = said.0; moves = moves; said = said.1; proves = proves refl }))
  moves_tried true e said proves passes =
      (e, (tt, record { whole = said.0; moves = moves; said = said.1; pass = passes refl }))
