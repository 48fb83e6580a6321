-- What the code of `same` knows on its way. This file mirrors the code, and is cited by private
-- contracts alone.
use Rattle.std.specs.Prelude.{◌≡◌, ◌↔◌, ◌⊎◌, ℕ, Bool, IsTrue, List, take}
use Rattle.mm_code.specs.Words.{tokens_in}
use Rattle.mm_frame.specs.Sentence.{Sentence}
use Rattle.mm_step.specs.declared.fault.ProofRule.{ProofRule}
use Rattle.mm_step.specs.declared.profile.Profile.{Profile}
use Rattle.mm_step.specs.Profiles.{limit_of}
use Rattle.mm_step.specs.Moves.{Move}
use Rattle.mm_forms.specs.OneTree.{MakeSameTree}
use Rattle.mm_proof.specs.UnderProfile.{IsProvedUnder, IsFaultUnder}
use Rattle.mm_proof.specs.Parsed.{OfProof}
use Rattle.mm_proof.specs.ReadSteps.{ReadSteps}
use Rattle.mm_proof.specs.Verified.{OfMoves, FailsWith}
use Rattle.mm_rules.specs.declared.rule.Rule.{Rule}
use Rattle.mm_rules.specs.declared.ask.AskFault.{AskFault}
use Rattle.mm_rules.specs.declared.ask.AskFault.TheVariants as ask
use Rattle.mm_rules.specs.declared.rule.Rule.TheVariants as rules
use Rattle.mm_rules.specs.Compared.{IsProofText, IsTextFault}

-- the fault is the first one of the steps as a proof of the `$p` with this number, or a refused
-- growth
abbrev pub FailsAs : List Sentence → (id : ℕ) → ReadSteps → AskFault → Type 0
FailsAs statements id steps fault =
    (fault ≡ ask.Memory) ⊎ ((rule : ProofRule) × (step : ℕ) × (fault ≡ ask.Text (rules.Proof rule) step)
    × OfMoves statements id steps.moves (λ index s moves.
    FailsWith (limit_of steps.profile) statements index s moves rule step))

-- the fault is one of the tokens as a proof of the `$p` with this number under the profile, or a
-- refused growth
abbrev pub IsUnproved : Profile → List Sentence → (id : ℕ) → (tokens : List (List ℕ)) → AskFault
    → Type 0
IsUnproved profile statements id tokens fault =
    (fault ≡ ask.Memory) ⊎ ((rule : ProofRule) × (step : ℕ) × (fault ≡ ask.Text (rules.Proof rule) step)
    × OfProof statements id (λ index s.
    IsFaultUnder profile (take index statements) s tokens rule step))

-- the fault is one of the text as a proof of the `$p` with this number under the profile, or a
-- refused growth
abbrev pub IsTextRefused : Profile → List Sentence → (id : ℕ) → (text : List ℕ) → AskFault → Type 0
IsTextRefused profile statements id text fault =
    (fault ≡ ask.Memory) ⊎ ((rule : Rule) × (step : ℕ) × (fault ≡ ask.Text rule step)
    × OfProof statements id (λ index s.
    IsTextFault profile (take index statements) s text rule step))

-- the text is a proof of the `$p` with this number under the profile, and this tells whether it
-- makes the same tree as the steps
abbrev pub IsComparedWith : Profile → List Sentence → (id : ℕ) → List (Move ℕ) → (text : List ℕ)
    → Bool → Type 0
IsComparedWith profile statements id steps text same =
    IsProofText text
    × OfMoves statements id steps (λ index s moves.
    (p : IsProvedUnder profile (take index statements) s (tokens_in text))
    × (IsTrue same ↔ MakeSameTree (take index statements) moves p.1.moves))
