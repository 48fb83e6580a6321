-- When a `$p` is proved, and the first fault of a proof (the Metamath book, sections 4.1.4, 4.3 and
-- 4.4.3, appendix B).
use Rattle.std.specs.Prelude.{◌≡◌, ◌≢◌, ℕ, ◌+◌, ◌<◌, List, [], ◌∷◌, ◌++◌, drop, length}
use Rattle.std.specs.Prelude.{slice_get, Contains, Some, ◌⊎◌}
use Rattle.mm_code.specs.declared.code.CodeRule.TheVariants as code
use Rattle.mm_code.specs.Letters.{LettersBreak}
use Rattle.mm_frame.specs.Sentence.{Sentence, SomeSentence, IsHypothesis, IsLabelled}
use Rattle.mm_frame.specs.Active.{IsActive}
use Rattle.mm_step.specs.declared.fault.ProofRule.{ProofRule}
use Rattle.mm_step.specs.declared.fault.ProofRule.TheVariants.{P1, P2, P3, P4, P5}
use Rattle.mm_step.specs.declared.fault.ProofRule.TheVariants.{P13, P14}
use Rattle.mm_step.specs.Substitution.{Expression}
use Rattle.mm_step.specs.Tree.{Trees, none, tree, DeriveAll}
use Rattle.mm_step.specs.Tree.{AnyExpression}
use Rattle.mm_step.specs.Moves.{Move, steps_in, Makes}
use Rattle.mm_proof.specs.Tokens.{closing_token, BeginsList, AreLabels, AreLetters, SayMoves}
use Rattle.mm_step.specs.Proof.{FirstAtMove, Passed, proof_rank}

-- the rules that are judged over the whole proof
abbrev pub BreaksWhole : ProofRule → List Sentence → List (List ℕ) → Type 0
BreaksWhole P1 before tokens =
    BeginsList tokens × ¬ (Contains (drop 1 tokens) closing_token)
BreaksWhole P2 before tokens =
    (labels : List (List ℕ)) × AreLabels tokens labels
    × (label : List ℕ) × Contains labels label × ¬ (SomeSentence before (IsLabelled label))
BreaksWhole P3 before tokens =
    (labels : List (List ℕ)) × AreLabels tokens labels
    × (label : List ℕ) × Contains labels label
    × (index : ℕ) × (h : Sentence) × (slice_get before index ≡ Some h) × IsLabelled label h
    × IsHypothesis h.kind × ¬ (IsActive before index)
BreaksWhole P4 before tokens = (text : List ℕ) × AreLetters tokens text × LettersBreak code.P4 text
BreaksWhole P5 before tokens = (text : List ℕ) × AreLetters tokens text × LettersBreak code.P5 text
BreaksWhole rule before tokens = ⊥

-- the proof breaks none of the rules that are judged over the whole of it
abbrev pub IsWhole : List Sentence → List (List ℕ) → Type 0
IsWhole before tokens = (rule : ProofRule) → ¬ (BreaksWhole rule before tokens)

-- The moves prove the statement, each step making an expression that fits: they make one tree,
-- which derives the statement's expression.
pub record Prove (Fits : Expression → Type 0) (before : List Sentence) (s : Sentence)
    (moves : List (Move (List ℕ))) : Type 0 where
  pub label : List ℕ
  pub below : Trees
  pub kept : List Trees
  pub made : Makes before moves none [] (tree label below none) kept
  pub derived : DeriveAll Fits before (tree label below none) (s.symbols ∷ [])

-- The tokens are a proof of the `$p` after the statements before it, each step making an expression
-- that fits: they break no rule that is judged over the whole proof, and the moves that they say
-- prove it.
pub record IsProvedWithin (Fits : Expression → Type 0) (before : List Sentence) (s : Sentence)
    (tokens : List (List ℕ)) : Type 0 where
  pub whole : IsWhole before tokens
  pub moves : List (Move (List ℕ))
  pub said : SayMoves before s tokens moves
  pub proves : Prove Fits before s moves

-- the tokens are a proof of the `$p`
abbrev pub IsProved : List Sentence → Sentence → List (List ℕ) → Type 0
IsProved before s tokens = IsProvedWithin AnyExpression before s tokens

-- a rule over the whole proof is broken: the first one, at step 0
pub record IsWholeFault (before : List Sentence) (tokens : List (List ℕ))
    (rule : ProofRule) : Type 0 where
  pub broken : BreaksWhole rule before tokens
  pub first : (other : ProofRule) → proof_rank other < proof_rank rule
      → ¬ (BreaksWhole other before tokens)

-- all moves before this one passed, and it breaks this rule first
pub record IsMoveFault (Fits : Expression → Type 0) (before : List Sentence)
    (moves : List (Move (List ℕ))) (rule : ProofRule) (step : ℕ) : Type 0 where
  pub earlier : List (Move (List ℕ))
  pub move : Move (List ℕ)
  pub later : List (Move (List ℕ))
  pub parts : moves ≡ earlier ++ move ∷ later
  pub number : step ≡ steps_in earlier + 1
  pub stack : List Expression
  pub kept : List Expression
  pub passed : Passed Fits before earlier stack kept
  pub fault : FirstAtMove Fits rule before stack kept move

-- P13: there isn't exactly one entry at the end; P14: it differs from the statement's expression
abbrev pub BreaksEnd : ProofRule → List Expression → List (List ℕ) → Type 0
BreaksEnd P13 stack expression = length stack ≢ 1
BreaksEnd P14 stack expression =
    (entry : List (List ℕ)) × (stack ≡ entry ∷ []) × (entry ≢ expression)
BreaksEnd rule stack expression = ⊥

-- all moves passed, and what they leave breaks this rule
pub record IsEndFault (Fits : Expression → Type 0) (before : List Sentence) (s : Sentence)
    (moves : List (Move (List ℕ))) (rule : ProofRule) (step : ℕ) : Type 0 where
  pub stack : List Expression
  pub kept : List Expression
  pub passed : Passed Fits before moves stack kept
  pub number : step ≡ steps_in moves + 1
  pub broken : BreaksEnd rule stack s.symbols

-- the first fault of the moves: its rule and the number of its step
abbrev pub IsMovesFault : (Expression → Type 0) → List Sentence → Sentence
    → List (Move (List ℕ)) → ProofRule → ℕ → Type 0
IsMovesFault Fits before s moves rule step =
    IsMoveFault Fits before moves rule step ⊎ IsEndFault Fits before s moves rule step

-- the first fault of the tokens as a proof of the `$p`
abbrev pub IsFault : (Expression → Type 0) → List Sentence → Sentence → List (List ℕ)
    → ProofRule → ℕ → Type 0
IsFault Fits before s tokens rule step =
    ((step ≡ 0) × IsWholeFault before tokens rule)
    ⊎ (IsWhole before tokens × (moves : List (Move (List ℕ))) × SayMoves before s tokens moves
    × IsMovesFault Fits before s moves rule step)
