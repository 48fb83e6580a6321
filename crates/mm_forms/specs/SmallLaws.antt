-- Laws of small proofs, after statements that break no rule of meaning: this project's own.
use Rattle.std.specs.Prelude.{◌≡◌, ℕ, ◌≤◌, List}
use Rattle.mm_code.specs.declared.code.Code.{Code}
use Rattle.mm_code.specs.LetterCount.{letter_count}
use Rattle.mm_frame.specs.Sentence.{Sentence}
use Rattle.mm_frame.specs.Rules.{AllMeant}
use Rattle.mm_frame.specs.Form.{AllFormed}
use Rattle.mm_step.specs.Tree.{Trees, none, tree, TreesFit}
use Rattle.mm_step.specs.Moves.{Move}
use Rattle.mm_forms.specs.Sharing.{PairSays, IsPacked}
use Rattle.mm_forms.specs.SmallProofs.{AreByUse, IsSmall}

-- A tree has one small proof at most.
abbrev pub OneSmall : Type 0
OneSmall =
    (before : List Sentence) (s : Sentence) (label : List ℕ) (below : Trees)
    (listed listed' : List (List ℕ)) (codes codes' : List Code) → AllMeant before
    → IsSmall before s (tree label below none) listed codes
    → IsSmall before s (tree label below none) listed' codes'
    → (listed ≡ listed') × (codes ≡ codes')

-- A tree that fits has one, after statements in form.
abbrev pub SomeSmall : Type 0
SomeSmall =
    (before : List Sentence) (s : Sentence) (label : List ℕ) (below : Trees) → AllMeant before
    → AllFormed before → TreesFit before (tree label below none)
    → (listed : List (List ℕ)) × (codes : List Code)
    × IsSmall before s (tree label below none) listed codes

-- No list makes the letters of moves fewer than the one by use: whatever labels are listed, and
-- however the moves are said by them.
abbrev pub NoBetterOrder : Type 0
NoBetterOrder =
    (before : List Sentence) (s : Sentence) (listed listed' : List (List ℕ))
    (codes codes' : List Code) (moves : List (Move (List ℕ))) → AllMeant before
    → (p : PairSays before s listed codes moves) → AreByUse p.labels moves listed
    → PairSays before s listed' codes' moves → letter_count codes ≤ letter_count codes'

-- The small proof of a tree has at most as many letters as the fully shared one.
abbrev pub SmallIsNoLarger : Type 0
SmallIsNoLarger =
    (before : List Sentence) (s : Sentence) (label : List ℕ) (below : Trees)
    (listed listed' : List (List ℕ)) (codes codes' : List Code) → AllMeant before
    → IsSmall before s (tree label below none) listed codes
    → IsPacked before s (tree label below none) listed' codes'
    → letter_count codes ≤ letter_count codes'
