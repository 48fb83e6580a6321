-- How the steps of a proof are told: with their expressions alone, or also with their places and
-- letters, or with what they use. The text is this project's own.
use Rattle.std.specs.Prelude.{◌≡◌, ℕ, List, take, slice_get, Some, Bool, true, false}
use Rattle.mm_base.specs.Statement.{PlainStatement}
use Rattle.mm_base.specs.Token.{PlainToken}
use Rattle.mm_text.specs.Files.{PlainFile}
use Rattle.mm_frame.specs.Sentence.{Sentence, sentence_of, IsLabelled}
use Rattle.mm_step.specs.Moves.{Move}
use Rattle.mm_proof.specs.Tokens.{SayMoves}
use Rattle.mm_listing.specs.Listing.{ListedStep, AreListed}
use Rattle.mm_rules.specs.Verdict.{proof_of, is_proof, sentences}
use Rattle.mm_verdict.specs.declared.question.Telling.{Telling}
use Rattle.mm_verdict.specs.declared.question.Telling.TheVariants.{Steps, Letters, Uses}
use Rattle.mm_facts.specs.Lettered.{AreLetteredLines}
use Rattle.mm_render.specs.Shown.{listing_text}
use Rattle.mm_render.specs.ShownUses.{TellsUses}

-- the text tells these steps of the proof whose tokens stand in the files, if so it is said with
-- their places and letters
abbrev pub TellsSteps : (lettered : Bool) → List PlainFile → List PlainToken → List ListedStep
    → (text : List ℕ) → Type 0
TellsSteps false files tokens steps text = text ≡ listing_text steps
TellsSteps true files tokens steps text = AreLetteredLines files tokens steps text

-- the text lists the steps of these moves so
abbrev pub ListsMoves : (lettered : Bool) → List PlainFile → (before : List Sentence)
    → List PlainToken → List (Move (List ℕ)) → (text : List ℕ) → Type 0
ListsMoves lettered files before tokens moves text =
    (steps : List ListedStep) × AreListed before moves steps
    × TellsSteps lettered files tokens steps text

-- the text tells the steps of these moves
abbrev pub IsTextOfMoves : Telling → List PlainFile → (before : List Sentence) → List PlainToken
    → List (Move (List ℕ)) → (text : List ℕ) → Type 0
IsTextOfMoves Steps files before tokens moves text =
    ListsMoves false files before tokens moves text
IsTextOfMoves Letters files before tokens moves text =
    ListsMoves true files before tokens moves text
IsTextOfMoves (Uses essential) files before tokens moves text =
    TellsUses essential before moves text

-- the text tells the steps of all moves that these say of the tokens, as a proof of a `$p` after the
-- statements before it
abbrev pub TellsMoves : Telling → List PlainFile → (before : List Sentence) → Sentence
    → List PlainToken → (said : List (List ℕ)) → (text : List ℕ) → Type 0
TellsMoves telling files before s tokens said text =
    (moves : List (Move (List ℕ))) × SayMoves before s said moves
    × IsTextOfMoves telling files before tokens moves text

-- the text tells the steps of the proof of the theorem with the label, which is complete
pub record TellsProof (telling : Telling) (files : List PlainFile)
    (statements : List PlainStatement) (label : List ℕ) (text : List ℕ) : Type 0 where
  pub index : ℕ
  pub s : PlainStatement
  pub there : slice_get statements index ≡ Some s
  pub named : IsLabelled label (sentence_of s)
  pub complete : is_proof s ≡ true
  pub told : TellsMoves telling files (sentences (take index statements)) (sentence_of s) s.proof
      (proof_of s) text
