-- What the code of the moves knows on its way: it mirrors the code.
use Rattle.std.specs.Prelude.{◌≡◌, ℕ, ◌+◌, List, length, map, take, slice_get, Contains, Some}
use Rattle.std.specs.Prelude.{◌-◌, ◌⊎◌, Option, None}
use Rattle.std.specs.List.{AllZip, AllByRecursion}
use Rattle.mm_frame.specs.Sentence.{Sentence, SomeSentence, IsLabelled, IsHypothesis}
use Rattle.mm_frame.specs.Active.{IsActive}
use Rattle.mm_frame.specs.declared.number.LabelId.{LabelId}
use Rattle.mm_code.specs.declared.code.Code.{Code}
use Rattle.mm_code.specs.declared.code.Code.TheVariants as codes
use Rattle.mm_code.specs.declared.code.CodeFault.{CodeFault}
use Rattle.mm_code.specs.declared.code.CodeFault.TheVariants as code_faults
use Rattle.mm_code.specs.declared.code.CodeRule.TheVariants as code_rules
use Rattle.mm_step.specs.declared.fault.ProofFault.{ProofFault}
use Rattle.mm_step.specs.declared.fault.ProofFault.TheVariants as faults
use Rattle.mm_step.specs.Moves.{Move, name, again, mark}
use Rattle.mm_step.specs.Plain.{ids_in}
use Rattle.mm_proof.specs.Tokens.{SayMoves}
use Rattle.mm_proof.specs.Proof.{IsWhole}
use Rattle.mm_step.specs.Steps.{AreNumberedMoves, IsUsableMove}
use Rattle.mm_step.specs.declared.fault.ProofRule.{ProofRule}
use Rattle.mm_step.specs.declared.fault.ProofRule.TheVariants as rules
use Rattle.mm_proof.specs.declared.labels.Use.{Use}
use Rattle.mm_proof.specs.declared.labels.Use.TheVariants as uses
use Rattle.mm_step.specs.Mirror.CodeSteps.{MayBeUsed}

-- the label is that of a hypothesis before an index that isn't active there
pub record IsIdle (statements : List Sentence) (index : ℕ) (label : List ℕ) : Type 0 where
  pub at : ℕ
  pub s : Sentence
  pub there : slice_get (take index statements) at ≡ Some s
  pub named : IsLabelled label s
  pub kind : IsHypothesis s.kind
  pub idle : ¬ (IsActive (take index statements) at)

-- a label of no statement before the index
abbrev pub IsUnknown : List Sentence → ℕ → List ℕ → Type 0
IsUnknown statements index label = ¬ (SomeSentence (take index statements) (IsLabelled label))

-- The numbers are those of the labels, which may be used.
abbrev pub AreFor : List Sentence → ℕ → List ℕ → List (List ℕ) → Type 0
AreFor statements index ids labels =
    AllZip (λ id label. MayBeUsed statements index label id) ids labels

-- what a label stands for in the proof of the statement at an index
abbrev pub IsUseOf : List Sentence → ℕ → List ℕ → Use → Type 0
IsUseOf statements index label uses.Unknown = IsUnknown statements index label
IsUseOf statements index label uses.Idle = IsIdle statements index label
IsUseOf statements index label (uses.Number id) = MayBeUsed statements index label id.0

-- Why the labels have no numbers: one is unknown; or each is that of an earlier statement, and one
-- of them is idle.
abbrev pub BreaksLabels : ProofRule → List Sentence → ℕ → List (List ℕ) → Type 0
BreaksLabels rules.P2 statements index labels =
    (label : List ℕ) × Contains labels label × IsUnknown statements index label
BreaksLabels rules.P3 statements index labels =
    ((label : List ℕ) → Contains labels label → ¬ (IsUnknown statements index label))
    × (label : List ℕ) × Contains labels label × IsIdle statements index label
BreaksLabels rule statements index labels = ⊥

-- the code says the move by numbers, where numbers from 1 on stand for these labels in order, and
-- those above for tags
abbrev pub NumberSays : List ℕ → Code → Move ℕ → Type 0
NumberSays ids (codes.Number number) move =
    (index : ℕ) × (number ≡ index + 1)
    × (((id : ℕ) × (slice_get ids index ≡ Some id) × (move ≡ name id))
    ⊎ ((tag : ℕ) × (index ≡ length ids + tag) × (move ≡ again tag)))
NumberSays ids codes.Tag move = move ≡ mark

-- the move by the label with a number, or else by a tag
abbrev pub move_by : Option ℕ → ℕ → Move ℕ
move_by (Some id) tag = name id
move_by None tag = again tag

-- the move at an index, where indices stand for these labels in order, and those above for tags
abbrev pub entry_move : List ℕ → ℕ → Move ℕ
entry_move ids index = move_by (slice_get ids index) (index - length ids)

-- the move that a code says
abbrev pub code_move : List ℕ → Code → Move ℕ
code_move ids (codes.Number number) = entry_move ids (number - 1)
code_move ids codes.Tag = mark

abbrev pub code_moves : List ℕ → List Code → List (Move ℕ)
code_moves ids said = map (code_move ids) said

-- the moves that the codes of a proof say, whose first numbers stand for these entries
abbrev pub moves_of : List LabelId → List Code → List (Move ℕ)
moves_of entries said = code_moves (ids_in entries) said

-- the tokens break no rule over the whole proof, and the moves are what they say, each of which may
-- be made
pub record IsReading (statements : List Sentence) (index : ℕ) (tokens : List (List ℕ))
    (steps : List (Move ℕ)) : Type 0 where
  pub whole : IsWhole (take index statements) tokens
  pub own : Sentence
  pub there : slice_get statements index ≡ Some own
  pub moves : List (Move (List ℕ))
  pub said : SayMoves (take index statements) own tokens moves
  pub numbered : AreNumberedMoves statements steps moves
  pub usable : AllByRecursion (IsUsableMove (take index statements)) moves

-- a fault of the letters as a fault of the proof
abbrev pub fault_behind : CodeFault → ProofFault
fault_behind (code_faults.Rule code_rules.P4) = faults.Rule rules.P4 0
fault_behind (code_faults.Rule code_rules.P5) = faults.Rule rules.P5 0
fault_behind code_faults.Memory = faults.Memory
