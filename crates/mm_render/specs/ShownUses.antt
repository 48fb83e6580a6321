-- The text that tells what the steps of a theorem's proof use, which is this project's own.
use Rattle.std.specs.Prelude.{◌≡◌, ℕ, ◌+◌, List, [], ◌∷◌, ◌++◌, length, take, slice_get, Some}
use Rattle.std.specs.Prelude.{codes}
use Rattle.std.specs.Prelude.{Bool, true, false, cond, decimal, replicate}
use Rattle.std.specs.List.{flat_map}
use Rattle.mm_base.specs.Statement.{PlainStatement}
use Rattle.mm_frame.specs.Sentence.{Sentence, sentence_of, IsLabelled}
use Rattle.mm_step.specs.Moves.{Move}
use Rattle.mm_proof.specs.Tokens.{SayMoves}
use Rattle.mm_listing.specs.Listing.{ListedStep, AreListed}
use Rattle.mm_listing.specs.Uses.{AreUses, AreRoots, AreReached}
use Rattle.mm_rules.specs.Verdict.{proof_of, is_proof, sentences}
use Rattle.mm_render.specs.Shown.{name_text}
use Rattle.mm_rules.specs.Shown.{symbols_text}

-- a comma and the number, for each of these steps
abbrev pub more_uses_text : List ℕ → List ℕ
more_uses_text steps = flat_map (λ step. codes "," ++ decimal step) steps

-- the numbers of the steps that a step uses, with commas between them; `-` for none
abbrev pub uses_text : List ℕ → List ℕ
uses_text [] = codes "-"
uses_text (step ∷ steps) = decimal step ++ more_uses_text steps

-- the line of a step with a number, which uses these: its number, what it uses, its name, and the
-- symbols of the expression that it pushes
abbrev pub used_step_text : ℕ → ListedStep → (used : List ℕ) → List ℕ
used_step_text number step used =
    decimal number ++ codes " " ++ uses_text used ++ codes " " ++ name_text step.called
    ++ symbols_text step.expression ++ codes "\n"

-- the lines of those steps that are told, the first of the steps having this number
abbrev pub used_steps_text : ℕ → List ListedStep → (rows : List (List ℕ)) → (told : List Bool)
    → List ℕ
used_steps_text number (step ∷ steps) (used ∷ rows) (is_told ∷ told) =
    cond is_told (used_step_text number step used) [] ++ used_steps_text (number + 1) steps rows
    told
used_steps_text number steps rows told = []

-- these steps are told: all; or of the essential ones those that are reached from the roots
abbrev pub AreTold : (essential : Bool) → (roots : List ℕ) → (rows : List (List ℕ))
    → (told : List Bool) → Type 0
AreTold false roots rows told = told ≡ replicate (length rows) true
AreTold true roots rows told = AreReached roots rows told

-- the text tells what the steps of the moves use
pub record TellsUses (essential : Bool) (before : List Sentence) (moves : List (Move (List ℕ)))
    (text : List ℕ) : Type 0 where
  pub steps : List ListedStep
  pub listed : AreListed before moves steps
  pub rows : List (List ℕ)
  pub used : AreUses essential before moves rows
  pub roots : List ℕ
  pub rooted : AreRoots before moves roots
  pub told : List Bool
  pub chosen : AreTold essential roots rows told
  pub laid : text ≡ used_steps_text 1 steps rows told

-- the text tells what the steps of the moves use that the tokens say, as a proof of a `$p` after
-- the statements before it
abbrev pub IsUsesText : (essential : Bool) → (before : List Sentence) → Sentence
    → (tokens : List (List ℕ)) → (text : List ℕ) → Type 0
IsUsesText essential before s tokens text =
    (moves : List (Move (List ℕ))) × SayMoves before s tokens moves
    × TellsUses essential before moves text

-- the text is that of the proof of the theorem with the label, which is complete
pub record ShowsUses (essential : Bool) (statements : List PlainStatement) (label : List ℕ)
    (text : List ℕ) : Type 0 where
  pub index : ℕ
  pub s : PlainStatement
  pub there : slice_get statements index ≡ Some s
  pub named : IsLabelled label (sentence_of s)
  pub complete : is_proof s ≡ true
  pub shown :
      IsUsesText essential (sentences (take index statements)) (sentence_of s) (proof_of s) text
