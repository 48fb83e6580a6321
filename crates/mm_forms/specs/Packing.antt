-- The fully shared proof of the tree that moves make, by the numbers of its labels: this project's
-- own, of compressed proofs (the Metamath book, section 4.4.3 and appendix B).
use Rattle.std.specs.Prelude.{ℕ, List, take}
use Rattle.mm_code.specs.declared.code.Code.{Code}
use Rattle.mm_frame.specs.declared.number.LabelId.{LabelId}
use Rattle.mm_frame.specs.Sentence.{Sentence}
use Rattle.mm_step.specs.Tree.{Trees, none, tree}
use Rattle.mm_step.specs.Moves.{Move}
use Rattle.mm_forms.specs.OneTree.{MakeTree}
use Rattle.mm_forms.specs.Spelled.{AreLabelsOf}
use Rattle.mm_forms.specs.BigSubtrees.{IsBig}
use Rattle.mm_forms.specs.Sharing.{IsSharedProof}

-- of the tree that the moves make this holds
abbrev pub OfTree : List Sentence → List (Move (List ℕ)) → (Trees → Type 0) → Type 0
OfTree before moves P =
    (label : List ℕ) (below : Trees) → MakeTree before moves label below → P (tree label below none)

-- The labels with these numbers and the codes are the proof of the trees that shares those
-- subtrees, as a proof of the statement at the index.
abbrev pub AreSharedProof : (P : Trees → Type 0) → List Sentence → (index : ℕ) → Sentence → Trees
    → List LabelId → List Code → Type 0
AreSharedProof P statements index s trees ids codes =
    (listed : List (List ℕ)) × AreLabelsOf statements ids listed
    × IsSharedProof P (take index statements) s trees listed codes

-- they are the fully shared proof of the trees
abbrev pub ArePacked : List Sentence → (index : ℕ) → Sentence → Trees → List LabelId → List Code
    → Type 0
ArePacked statements index s trees ids codes =
    AreSharedProof IsBig statements index s trees ids codes
