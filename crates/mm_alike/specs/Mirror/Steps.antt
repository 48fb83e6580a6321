-- Steps of proofs of two books, compared by the names of their labels. This file mirrors the code,
-- and is cited by private contracts alone.
use Rattle.std.specs.Prelude.{◌≡◌, ◌⊎◌, ◌↔◌, ℕ, List, length, map, take, Bool, IsTrue}
use Rattle.std.specs.List.{AllZip}
use Rattle.mm_frame.specs.declared.number.LabelId.{LabelId}
use Rattle.mm_frame.specs.Frame.{AreMandatory}
use Rattle.mm_frame.specs.Numbers.{IsLabelNumber, IsNumbered}
use Rattle.mm_frame.specs.Sentence.{Sentence, IsAssertion, IsHypothesis}
use Rattle.mm_step.specs.Moves.{Move, name, again, mark}
use Rattle.mm_step.specs.Steps.{AreNumberedMoves, IsProofNumber}
use Rattle.mm_step.specs.Tree.{Trees}
use Rattle.mm_forms.specs.BigSubtrees.{IsBig}
use Rattle.mm_forms.specs.OneTree.{MakeTree}
use Rattle.mm_forms.specs.Packing.{OfTree}
use Rattle.mm_forms.specs.Sharing.{ShareThose}
use Rattle.mm_forms.specs.Spelled.{IsNumberOfLabel}
use Rattle.mm_proof.specs.Verified.{OfMoves}
use Rattle.mm_alike.specs.declared.moves.Said.{Said}
use Rattle.mm_alike.specs.declared.moves.Said.TheVariants.{Label, Again, Mark}

-- ---- moves

-- the move that is said
abbrev pub said_move : Said → Move ℕ
said_move (Label id) = name id.0
said_move (Again tag) = again tag
said_move Mark = mark

-- ---- labels

-- The label with a number stands over so many trees: none, if it is that of a hypothesis; else as
-- many as the assertion has mandatory hypotheses.
pub record HasWidth (statements : List Sentence) (id width : ℕ) : Type 0 where
  pub index : ℕ
  pub s : Sentence
  pub numbered : IsNumbered statements id index s
  pub stands : (IsHypothesis s.kind × (width ≡ 0))
      ⊎ (IsAssertion s.kind × (hypotheses : List Sentence)
      × AreMandatory (take index statements) s hypotheses × (width ≡ length hypotheses))

-- the numbers are those of one label in two databases
abbrev pub HaveOneLabel : (old new : List Sentence) → (one other : ℕ) → Type 0
HaveOneLabel old new one other =
    (label : List ℕ) × IsNumberOfLabel old one label × IsNumberOfLabel new other label

-- they are those of labels that stand over as many trees
abbrev pub HaveOneWidth : (old new : List Sentence) → (one other : ℕ) → Type 0
HaveOneWidth old new one other = (width : ℕ) × HasWidth old one width × HasWidth new other width

-- both
abbrev pub IsSameStep : (old new : List Sentence) → (one other : ℕ) → Type 0
IsSameStep old new one other = HaveOneLabel old new one other × HaveOneWidth old new one other

-- the label with a number stands over as many trees in the other database, if it is one there
abbrev pub KeepsWidth : (statements others : List Sentence) → (id : ℕ) → Type 0
KeepsWidth statements others id =
    (n : ℕ) (label : List ℕ) → IsNumberOfLabel statements id label
    → IsNumberOfLabel others n label → HaveOneWidth statements others id n

-- each label does
abbrev pub KeepWidths : (statements others : List Sentence) → Type 0
KeepWidths statements others =
    (id : ℕ) → IsLabelNumber statements id → KeepsWidth statements others id

-- the mandatory hypotheses of two assertions have the same labels
abbrev pub NameTheSame : (statements others : List Sentence) → (one other : ℕ) → Type 0
NameTheSame statements others one other =
    (i : ℕ) (s : Sentence) (j : ℕ) (t : Sentence) (hypotheses other_hypotheses : List Sentence)
    → IsNumbered statements one i s → IsNumbered others other j t
    → AreMandatory (take i statements) s hypotheses
    → AreMandatory (take j others) t other_hypotheses
    → map (λ h. h.label) hypotheses ≡ map (λ h. h.label) other_hypotheses

-- the moves are one, by the names of labels
abbrev pub IsSameMove : (old new : List Sentence) → Move ℕ → Move ℕ → Type 0
IsSameMove old new (name one) (name other) = IsSameStep old new one other
IsSameMove old new (again tag) (again other) = tag ≡ other
IsSameMove old new mark mark = Unit {0}
IsSameMove old new one other = ⊥

-- so are the moves of two lists
abbrev pub AreSameMoves : (old new : List Sentence) → List (Move ℕ) → List (Move ℕ) → Type 0
AreSameMoves old new moves others = AllZip (IsSameMove old new) moves others

-- so are the steps by these labels
abbrev pub AreSameEntries : (old new : List Sentence) → List LabelId → List LabelId → Type 0
AreSameEntries old new entries others =
    AllZip (λ one other. IsSameStep old new one.0 other.0) entries others

-- ---- trees

-- the other moves share the subtrees of two or more nodes of the tree that those of the `$p` make
abbrev pub ShareTree : List Sentence → (id : ℕ) → (moves shared : List (Move ℕ)) → Type 0
ShareTree statements id moves shared =
    OfMoves statements id moves (λ index s names. OfTree (take index statements) names
    (λ t. (others : List (Move (List ℕ))) × AreNumberedMoves statements shared others
    × ShareThose IsBig (take index statements) t others))

-- the moves of two databases make one tree, each after the statements before its own
abbrev pub MakeTreeInBoth : (old new : List Sentence) → (moves others : List (Move (List ℕ)))
    → Type 0
MakeTreeInBoth old new moves others =
    (label : List ℕ) × (below : Trees) × MakeTree old moves label below
    × MakeTree new others label below

-- it is told whether the moves of two `$p` make one tree
abbrev pub TellsOneTree : (old new : List Sentence) → (one other : ℕ)
    → (moves others : List (Move ℕ)) → Bool → Type 0
TellsOneTree old new one other moves others same =
    (i : ℕ) (s : Sentence) (names : List (Move (List ℕ))) (j : ℕ) (t : Sentence)
    (other_names : List (Move (List ℕ))) → IsProofNumber old one i s
    → AreNumberedMoves old moves names → IsProofNumber new other j t
    → AreNumberedMoves new others other_names
    → IsTrue same ↔ MakeTreeInBoth (take i old) (take j new) names other_names
