-- What the code of the listing knows on its way: it mirrors the code.
use Rattle.std.specs.Prelude.{◌≡◌, ℕ, ◌-◌, ◌<◌, ◌^◌, List, [], ◌∷◌, ◌++◌, length, take, slice_get}
use Rattle.std.specs.Prelude.{slice_index_or, Some, Bool, true, false, ◌||◌}
use Rattle.mm_frame.specs.declared.number.Sym.{Sym}
use Rattle.mm_frame.specs.Sentence.{Sentence}
use Rattle.mm_step.specs.declared.fault.ProofRule.{ProofRule}
use Rattle.mm_step.specs.declared.fault.ProofFault.{ProofFault}
use Rattle.mm_proof.specs.Answer.{OnRule}
use Rattle.mm_step.specs.Moves.{Move}
use Rattle.mm_step.specs.Proof.{IsWithin}
use Rattle.mm_proof.specs.Proof.{Prove, IsMoveFault, IsMovesFault}
use Rattle.mm_step.specs.Steps.{AreNumberedMoves}
use Rattle.mm_step.specs.Stores.{numbers_in}
use Rattle.mm_listing.specs.Listing.{AreLinesWith, StandsAfter}
use Rattle.mm_proof.specs.Verified.{OfMoves}
use Rattle.mm_listing.specs.declared.lines.Expressed.{Expressed}
use Rattle.mm_listing.specs.declared.lines.Line.{Line}
use Rattle.mm_listing.specs.declared.lines.Lister.{Lister}
use Rattle.mm_step.specs.Mirror.CodeRun.{MayBeMade}
use Rattle.mm_proof.specs.Mirror.Judges.{HasJudged}
use Rattle.mm_step.specs.Mirror.Sites.{ProofSite}

-- whether the step at an index, from 0 on, is listed with its expression
abbrev pub expresses : Expressed → (index : ℕ) → Bool
expresses expressed index = expressed.all || slice_index_or expressed.flags.now index false

-- these are the symbols of the last entry of the stack; or none, where they are left out
abbrev pub IsLastWhere : (expressed : Bool) → (stack : List (List ℕ)) → List Sym → Type 0
IsLastWhere true stack symbols = slice_get stack (length stack - 1) ≡ Some (numbers_in symbols)
IsLastWhere false stack symbols = symbols ≡ []

-- the lines are the listing of the moves by numbers, whatever names they stand for, with these
-- expressions
abbrev pub AreLinesAt : List Sentence → (expressed : ℕ → Bool) → ℕ → List (Move ℕ) → List Line
    → Type 0
AreLinesAt statements expressed index steps lines =
    (moves : List (Move (List ℕ))) → AreNumberedMoves statements steps moves
    → AreLinesWith statements (take index statements) moves expressed lines

-- each tag stands after the step with its number, whatever names the moves stand for
abbrev pub AreTagsFor : List Sentence → List (Move ℕ) → List ℕ → Type 0
AreTagsFor statements prefix tags =
    (moves : List (Move (List ℕ))) → AreNumberedMoves statements prefix moves
    → (tag step : ℕ) → slice_get tags tag ≡ Some step → StandsAfter moves tag step

-- The lister has judged the moves since the first state, its lines are those of their steps, and
-- its tags the numbers of the steps that their marks stand after.
pub record HasListed {S : Type 0} (stack kept : S → List (List ℕ)) (first now : Lister S)
    (prefix : List (Move ℕ)) : Type 0 where
  pub same_lines : now.lines.ghost_name ≡ first.lines.ghost_name
  pub same_choice : now.expressed ≡ first.expressed
  pub judged : HasJudged stack kept first.judge now.judge prefix
  pub listed : let site = first.judge.table.now.site in
      AreLinesAt site.statements (expresses first.expressed) site.index prefix
      now.lines.now.items
  pub stand : AreTagsFor first.judge.table.now.site.statements prefix now.tags.now.items
  pub count : length now.lines.now.items ≡ now.judge.steps
  pub marks : length now.tags.now.items ≡ now.judge.kept

-- the move may be made after these, which stand for names; and numbers of steps fit 32 bits
abbrev pub MayBeListed : ProofSite → List (Move ℕ) → Move ℕ → Type 0
MayBeListed site prefix move =
    MayBeMade site.statements site.index move
    × ((names : List (Move (List ℕ)))
    × AreNumberedMoves site.statements (prefix ++ move ∷ []) names)
    × (length prefix < 2 ^ 32)

-- a move breaks the rule at a step, whatever names the moves stand for
abbrev pub BreaksAt : (limit : ℕ) → List Sentence → ℕ → List (Move ℕ) → ProofRule → ℕ → Type 0
BreaksAt limit statements index steps rule step =
    (moves : List (Move (List ℕ))) → AreNumberedMoves statements steps moves
    → IsMoveFault (IsWithin limit) (take index statements) moves rule step

-- the moves prove the `$p` with the number, and the lines are their listing
abbrev pub ListsProof : (limit : ℕ) → List Sentence → (id : ℕ) → List (Move ℕ)
    → (expressed : ℕ → Bool) → List Line → Type 0
ListsProof limit statements id steps expressed lines =
    OfMoves statements id steps (λ index s moves.
    Prove (IsWithin limit) (take index statements) s moves
    × AreLinesWith statements (take index statements) moves expressed lines)

-- the rule and the step of the fault are those of the moves' first fault
abbrev pub FaultsProof : (limit : ℕ) → List Sentence → (id : ℕ) → List (Move ℕ) → ProofFault
    → Type 0
FaultsProof limit statements id steps fault =
    OnRule fault (λ rule step. OfMoves statements id steps
    (λ index s moves.
    IsMovesFault (IsWithin limit) (take index statements) s moves rule step))
