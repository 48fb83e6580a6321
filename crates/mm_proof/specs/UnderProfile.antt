-- A proof, and the known prefix of one, under a profile: the rules, the form that the profile
-- demands of a compressed proof, and the most symbols of an expression (the Metamath book, sections
-- 4.1.4, 4.3 and 4.4.4, appendix B). The profiles are this project's own. A complete proof is
-- judged as a whole, and of an incomplete one the known prefix.
use Rattle.std.specs.Prelude.{◌≡◌, ℕ, List, ◌⊎◌}
use Rattle.mm_frame.specs.Sentence.{Sentence}
use Rattle.mm_frame.specs.Rules.{AllMeant}
use Rattle.mm_frame.specs.Form.{AllFormed}
use Rattle.mm_step.specs.declared.fault.ProofRule.{ProofRule}
use Rattle.mm_step.specs.declared.profile.Profile.{Profile}
use Rattle.mm_step.specs.Moves.{Move}
use Rattle.mm_proof.specs.Tokens.{SayMoves}
use Rattle.mm_step.specs.Proof.{IsWithin}
use Rattle.mm_proof.specs.Proof.{IsWhole, IsProvedWithin, IsMoveFault, IsMovesFault}
use Rattle.mm_step.specs.Profiles.{limit_of}
use Rattle.mm_proof.specs.CheckedPrefix.{checked_prefix, AreAllowed}
use Rattle.mm_proof.specs.Strict.{HasFormOf, IsTextFault}

-- the tokens are a proof of the `$p` under the profile
abbrev pub IsProvedUnder : Profile → List Sentence → Sentence → List (List ℕ) → Type 0
IsProvedUnder profile before s tokens =
    HasFormOf profile before s tokens
    × IsProvedWithin (IsWithin (limit_of profile)) before s tokens

-- The first fault of tokens under the profile, where `Faults` tells the first fault of the moves
-- that they say. The form is judged after P1 to P5, and before the steps.
abbrev pub HaveFirstFault : (List (Move (List ℕ)) → ProofRule → ℕ → Type 0) → Profile
    → List Sentence → Sentence → List (List ℕ) → ProofRule → ℕ → Type 0
HaveFirstFault Faults profile before s tokens rule step =
    ((step ≡ 0) × IsTextFault profile before s tokens rule)
    ⊎ (IsWhole before tokens × HasFormOf profile before s tokens
    × (moves : List (Move (List ℕ))) × SayMoves before s tokens moves × Faults moves rule step)

-- the first fault of the tokens as a proof of the `$p` under the profile
abbrev pub IsFaultUnder : Profile → List Sentence → Sentence → List (List ℕ) → ProofRule → ℕ
    → Type 0
IsFaultUnder profile before s tokens rule step =
    HaveFirstFault (IsMovesFault (IsWithin (limit_of profile)) before s)
    profile before s tokens rule step

-- the tokens of a prefix break no rule under the profile
abbrev pub AreAllowedUnder : Profile → List Sentence → Sentence → (prefix : List (List ℕ)) → Type 0
AreAllowedUnder profile before s prefix =
    HasFormOf profile before s prefix × AreAllowed (IsWithin (limit_of profile)) before s prefix

-- the first fault of such tokens under the profile
abbrev pub HaveFaultUnder : Profile → List Sentence → Sentence → (prefix : List (List ℕ))
    → ProofRule → ℕ → Type 0
HaveFaultUnder profile before s prefix rule step =
    HaveFirstFault (IsMoveFault (IsWithin (limit_of profile)) before)
    profile before s prefix rule step

-- the known prefix of the tokens breaks no rule under the profile
abbrev pub IsPrefixAllowedUnder : Profile → List Sentence → Sentence → List (List ℕ) → Type 0
IsPrefixAllowedUnder profile before s tokens = AreAllowedUnder profile before s (checked_prefix tokens)

-- the first fault of the known prefix of the tokens under the profile
abbrev pub IsPrefixFaultUnder : Profile → List Sentence → Sentence → List (List ℕ) → ProofRule → ℕ
    → Type 0
IsPrefixFaultUnder profile before s tokens rule step =
    HaveFaultUnder profile before s (checked_prefix tokens) rule step

-- where this is right, there is no fault
abbrev pub HasNoFault : (Right : Type 0) → (Fault : ProofRule → ℕ → Type 0) → Type 0
HasNoFault Right Fault = Right → (rule : ProofRule) (step : ℕ) → ¬ (Fault rule step)

-- there is one fault at most: any two have the same rule and the same step
abbrev pub IsOneFault : (Fault : ProofRule → ℕ → Type 0) → Type 0
IsOneFault Fault =
    (rule rule' : ProofRule) (step step' : ℕ) → Fault rule step → Fault rule' step'
    → (rule ≡ rule') × (step ≡ step')

-- After statements that are meant and in form each proof is proved under the profile, or has a
-- fault; not both, and no two faults.
abbrev pub OneVerdictUnder : Type 0
OneVerdictUnder =
    (profile : Profile) (before : List Sentence) (s : Sentence) (tokens : List (List ℕ))
    → AllMeant before → AllFormed before
    → (IsProvedUnder profile before s tokens
    ⊎ ((rule : ProofRule) × (step : ℕ) × IsFaultUnder profile before s tokens rule step))
    × HasNoFault (IsProvedUnder profile before s tokens) (IsFaultUnder profile before s tokens)
    × IsOneFault (IsFaultUnder profile before s tokens)

-- The same of each known prefix.
abbrev pub OnePrefixVerdictUnder : Type 0
OnePrefixVerdictUnder =
    (profile : Profile) (before : List Sentence) (s : Sentence) (tokens : List (List ℕ))
    → AllMeant before → AllFormed before
    → (IsPrefixAllowedUnder profile before s tokens
    ⊎ ((rule : ProofRule) × (step : ℕ) × IsPrefixFaultUnder profile before s tokens rule step))
    × HasNoFault (IsPrefixAllowedUnder profile before s tokens)
    (IsPrefixFaultUnder profile before s tokens)
    × IsOneFault (IsPrefixFaultUnder profile before s tokens)
