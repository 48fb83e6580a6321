-- The labels that the moves of a proof spell, by their numbers. The labels are those of a normal
-- proof (the Metamath book, section 4.3); the numbers are this project's own.
use Rattle.std.specs.Prelude.{◌≡◌, ℕ, List, slice_get, Some}
use Rattle.std.specs.List.{AllZip}
use Rattle.mm_frame.specs.declared.number.LabelId.{LabelId}
use Rattle.mm_frame.specs.Sentence.{Sentence, IsLabelled}
use Rattle.mm_frame.specs.Numbers.{labelled_sentences}
use Rattle.mm_step.specs.Tree.{Trees, none, tree, spelling}
use Rattle.mm_step.specs.Moves.{Move}
use Rattle.mm_forms.specs.OneTree.{MakeTree}

-- the number is that of a statement with this label
pub record IsNumberOfLabel (statements : List Sentence) (id : ℕ) (label : List ℕ) : Type 0 where
  pub s : Sentence
  pub there : slice_get (labelled_sentences statements) id ≡ Some s
  pub named : IsLabelled label s

-- these are the numbers of the labels, one by one
abbrev pub AreLabelsOf : List Sentence → List LabelId → List (List ℕ) → Type 0
AreLabelsOf statements ids labels =
    AllZip (λ id label. IsNumberOfLabel statements id.0 label) ids labels

-- of the spelling of the tree that the moves make this holds
abbrev pub OfSpelling : List Sentence → List (Move (List ℕ)) → (List (List ℕ) → Type 0) → Type 0
OfSpelling before moves P =
    (label : List ℕ) (below : Trees) → MakeTree before moves label below
    → P (spelling (tree label below none))
