-- Small compressed proofs: their list has the labels by how often they are used, so that frequent
-- ones have short numbers, and they tag fewer subtrees where that takes fewer letters. Compressed
-- proofs are those of the Metamath book, section 4.4.3 and appendix B; which of them are small is
-- this project's own.
use Rattle.std.specs.Prelude.{◌≡◌, ℕ, ◌<◌, ◌≤◌, List, ◌∷◌, ◌++◌, slice_get, count_by, Contains}
use Rattle.std.specs.Prelude.{Some, Bool, false, bytes_eq, take, ◌⊎◌, ◌↔◌}
use Rattle.mm_code.specs.declared.code.Code.{Code}
use Rattle.mm_code.specs.LetterCount.{letter_count}
use Rattle.mm_frame.specs.declared.number.LabelId.{LabelId}
use Rattle.mm_frame.specs.Sentence.{Sentence}
use Rattle.mm_step.specs.Tree.{Trees}
use Rattle.mm_step.specs.Moves.{Move, name, again, mark}
use Rattle.mm_forms.specs.Spelled.{AreLabelsOf}
use Rattle.mm_forms.specs.BigSubtrees.{IsBig}
use Rattle.mm_forms.specs.Sharing.{PairSays, ShareThose}
use Rattle.mm_forms.specs.ChosenSharing.{IsWorthATag}

-- the move is a step by this label
abbrev pub is_step_by : List ℕ → Move (List ℕ) → Bool
is_step_by label (name other) = bytes_eq label other
is_step_by label (again tag) = false
is_step_by label mark = false

-- how many of the moves are
abbrev pub uses : List ℕ → List (Move (List ℕ)) → ℕ
uses label moves = count_by (is_step_by label) moves

-- some move is a step by the first label, and none before it is one by the other
abbrev pub IsUsedBefore : List (Move (List ℕ)) → (first other : List ℕ) → Type 0
IsUsedBefore moves first other =
    (prefix after : List (Move (List ℕ))) × (moves ≡ prefix ++ name first ∷ after)
    × ¬ (Contains prefix (name other))

-- the first label is used more, or as often as the other and before it
abbrev pub ComesBefore : List (Move (List ℕ)) → (first other : List ℕ) → Type 0
ComesBefore moves first other =
    (uses other moves < uses first moves)
    ⊎ ((uses first moves ≡ uses other moves) × IsUsedBefore moves first other)

-- The listed labels are those by which the moves make steps, without those of the hypotheses, each
-- once: the ones that are used more come first, and of equally used ones those that are used first.
pub record AreByUse (hypotheses : List (List ℕ)) (moves : List (Move (List ℕ)))
    (listed : List (List ℕ)) : Type 0 where
  pub those : (label : List ℕ)
      → Contains listed label ↔ (Contains moves (name label) × ¬ (Contains hypotheses label))
  pub once : (i j : ℕ) (label : List ℕ) → slice_get listed i ≡ Some label
      → slice_get listed j ≡ Some label → i ≡ j
  pub ordered : (i j : ℕ) (first other : List ℕ) → i < j → slice_get listed i ≡ Some first
      → slice_get listed j ≡ Some other → ComesBefore moves first other

-- The listed labels and the codes are the proof of the trees that shares those subtrees and no
-- other, with its labels by use.
pub record IsByUse (P : Trees → Type 0) (before : List Sentence) (s : Sentence) (trees : Trees)
    (listed : List (List ℕ)) (codes : List Code) : Type 0 where
  pub moves : List (Move (List ℕ))
  pub says : PairSays before s listed codes moves
  pub shared : ShareThose P before trees moves
  pub by_use : AreByUse says.labels moves listed

-- The listed labels and the codes are the small proof of the trees. There are two with their labels
-- by use, the one that shares what is worth a tag and the fully shared one: it is the first where
-- this has fewer letters, and else the other.
abbrev pub IsSmall : (before : List Sentence) (s : Sentence) (trees : Trees)
    (listed : List (List ℕ)) (codes : List Code) → Type 0
IsSmall before s trees listed codes =
    (IsByUse IsWorthATag before s trees listed codes
    × ((others : List (List ℕ)) (codes' : List Code) → IsByUse IsBig before s trees others codes'
    → letter_count codes < letter_count codes'))
    ⊎ (IsByUse IsBig before s trees listed codes
    × ((others : List (List ℕ)) (codes' : List Code)
    → IsByUse IsWorthATag before s trees others codes'
    → letter_count codes ≤ letter_count codes'))

-- The labels with these numbers and the codes are the small proof of the trees, as a proof of the
-- statement at the index.
abbrev pub AreSmall : List Sentence → (index : ℕ) → Sentence → Trees → List LabelId → List Code
    → Type 0
AreSmall statements index s trees ids codes =
    (listed : List (List ℕ)) × AreLabelsOf statements ids listed
    × IsSmall (take index statements) s trees listed codes
