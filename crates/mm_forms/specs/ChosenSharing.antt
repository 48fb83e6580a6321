-- Which subtrees of a tree are worth a tag: this project's own, of compressed proofs (the Metamath
-- book, section 4.4.3 and appendix B).
use Rattle.std.specs.Prelude.{ℕ, ◌≤◌, List}
use Rattle.mm_code.specs.declared.code.Code.{Code}
use Rattle.mm_frame.specs.declared.number.LabelId.{LabelId}
use Rattle.mm_frame.specs.Sentence.{Sentence}
use Rattle.mm_step.specs.Tree.{Trees}
use Rattle.mm_forms.specs.BigSubtrees.{nodes}
use Rattle.mm_forms.specs.Packing.{AreSharedProof}

-- Three or more nodes. A tag takes a letter where its tree is made, and mostly two letters where
-- the tree is repeated; so a tree of two nodes, a label over a leaf, is about as short where it is
-- written out again.
abbrev pub IsWorthATag : Trees → Type 0
IsWorthATag trees = 3 ≤ nodes trees

-- The labels with these numbers and the codes are the proof of the trees that shares the subtrees
-- that are worth a tag, and no others, as a proof of the statement at the index.
abbrev pub AreChosen : List Sentence → (index : ℕ) → Sentence → Trees → List LabelId → List Code
    → Type 0
AreChosen statements index s trees ids codes =
    AreSharedProof IsWorthATag statements index s trees ids codes
