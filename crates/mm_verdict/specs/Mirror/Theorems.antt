-- What the code knows of a theorem that it reads again. This file mirrors the code, and is cited by
-- private contracts alone.
use Rattle.std.specs.Prelude.{◌≡◌, ℕ, List, take, slice_get, true, false, Some, None}
use Rattle.mm_base.specs.Statement.{PlainStatement}
use Rattle.mm_text.specs.Remaining.{Remaining}
use Rattle.mm_frame.specs.Sentence.{Sentence, sentence_of, IsLabelled}
use Rattle.mm_step.specs.Moves.{Move}
use Rattle.mm_proof.specs.Tokens.{IsIncomplete, SayMoves}
use Rattle.mm_proof.specs.Proof.{Prove}
use Rattle.mm_step.specs.Proof.{IsWithin}
use Rattle.mm_step.specs.declared.profile.Profile.{Profile}
use Rattle.mm_step.specs.Profiles.{limit_of}
use Rattle.mm_step.specs.Steps.{AreNumberedMoves, AreSteps, IsProofNumber}
use Rattle.mm_proof.specs.ReadSteps.{ReadSteps}
use Rattle.mm_proof.specs.Parsed.{OfProof}
use Rattle.mm_proof.specs.UnderProfile.{IsProvedUnder}
use Rattle.mm_proof.specs.Verified.{OfMoves}
use Rattle.mm_rules.specs.Verdict.{proof_of, is_proof, sentences}
use Rattle.mm_rules.specs.Shown.{Stands}

-- the tokens are a complete proof of the `$p` with this number under the profile
pub record IsProofOf (profile : Profile) (statements : List Sentence) (id : ℕ)
    (tokens : List (List ℕ)) : Type 0 where
  pub index : ℕ
  pub s : Sentence
  pub number : IsProofNumber statements id index s
  pub complete : ¬ (IsIncomplete tokens)
  pub proved : IsProvedUnder profile (take index statements) s tokens

-- the steps of the `$p` with this number are the moves that the tokens say
abbrev pub SayStepsOf : List Sentence → (id : ℕ) → (tokens : List (List ℕ)) → List (Move ℕ) → Type 0
SayStepsOf statements id tokens steps =
    OfProof statements id (λ index s.
    (moves : List (Move (List ℕ))) × SayMoves (take index statements) s tokens moves
    × AreNumberedMoves statements steps moves)

-- the steps prove the `$p` with this number, within what their profile allows
abbrev pub AreProvedSteps : List Sentence → (id : ℕ) → ReadSteps → Type 0
AreProvedSteps statements id steps =
    OfMoves statements id steps.moves (λ index s moves.
    Prove (IsWithin (limit_of steps.profile)) (take index statements) s moves)

-- the steps are of the `$p` with this number, prove it, and are those of the whole of its proof
abbrev pub IsWholeProof : List Sentence → (id : ℕ) → ReadSteps → Type 0
IsWholeProof statements id steps =
    AreSteps statements id steps.moves × AreProvedSteps statements id steps × (steps.prefix ≡ false)

-- the steps are those of the theorem with the label, which has this number and a complete proof
pub record AreStepsOf (statements : List PlainStatement) (label : List ℕ) (id : ℕ)
    (steps : List (Move ℕ)) : Type 0 where
  pub index : ℕ
  pub s : PlainStatement
  pub there : slice_get statements index ≡ Some s
  pub named : IsLabelled label (sentence_of s)
  pub complete : is_proof s ≡ true
  pub number : IsProofNumber (sentences statements) id index (sentence_of s)
  pub moves : List (Move (List ℕ))
  pub told : SayMoves (sentences (take index statements)) (sentence_of s) (proof_of s) moves
  pub numbered : AreNumberedMoves (sentences statements) steps moves

-- A statement with the label is left, and what is left was left at first.
pub record IsStillLeft (label : List ℕ) (first left : Remaining) : Type 0 where
  pub faultless : left.ending ≡ None
  pub some : (s : PlainStatement) × Stands left.statements label s
  pub within : (s : PlainStatement) → Stands left.statements label s
      → Stands first.statements label s
