-- Fully shared proofs: compressed proofs that make each subtree of two or more nodes once.
-- Compressed proofs are those of the Metamath book, section 4.4.3 and appendix B; which of them are
-- fully shared is this project's own.
use Rattle.std.specs.Prelude.{◌≡◌, ℕ, ◌+◌, ◌<◌, List, [], ◌∷◌, ◌++◌, length, map, slice_get}
use Rattle.std.specs.Prelude.{Contains, Some, ◌⊎◌}
use Rattle.std.specs.List.{AllZip}
use Rattle.mm_code.specs.declared.code.Code.{Code}
use Rattle.mm_frame.specs.Sentence.{Sentence}
use Rattle.mm_frame.specs.Frame.{AreMandatory}
use Rattle.mm_step.specs.Tree.{Trees, none, spelling}
use Rattle.mm_step.specs.Moves.{Move, again, Makes}
use Rattle.mm_proof.specs.Sharing.{steps_of}
use Rattle.mm_proof.specs.Tokens.{Says}
use Rattle.mm_forms.specs.BigSubtrees.{IsBig}
use Rattle.mm_forms.specs.Visits.{Visit, makes, keeps, visits}

-- The codes say the moves, where the first numbers stand for the labels of the statement's
-- mandatory hypotheses, the next ones for the listed labels, and those above for tags.
pub record PairSays (before : List Sentence) (s : Sentence) (listed : List (List ℕ))
    (codes : List Code) (moves : List (Move (List ℕ))) : Type 0 where
  pub hypotheses : List Sentence
  pub mandatory : AreMandatory before s hypotheses
  pub labels : List (List ℕ)
  pub labelled : map (λ h. h.label) hypotheses ≡ map Some labels
  pub each : AllZip (Says (labels ++ listed)) codes moves

-- The listed labels and the codes are a proof that makes the trees, whether they derive anything or
-- not.
pub record PairMakes (before : List Sentence) (s : Sentence) (trees : Trees)
    (listed : List (List ℕ)) (codes : List Code) : Type 0 where
  pub moves : List (Move (List ℕ))
  pub says : PairSays before s listed codes moves
  pub kept : List Trees
  pub made : Makes before moves none [] trees kept

-- no two steps by labels make the same tree of those
abbrev pub MakeOnce : (P : Trees → Type 0) → List Visit → Type 0
MakeOnce P list =
    (i j : ℕ) (t : Trees) → P t → slice_get list i ≡ Some (makes t)
    → slice_get list j ≡ Some (makes t) → i ≡ j

-- each mark stands right after a step by a label, and keeps the tree that this step makes, which is
-- one of those
abbrev pub KeepMade : (P : Trees → Type 0) → List Visit → Type 0
KeepMade P list =
    (i : ℕ) (t : Trees) → slice_get list i ≡ Some (keeps t)
    → P t × (j : ℕ) × (i ≡ j + 1) × (slice_get list j ≡ Some (makes t))

-- The moves make the trees and share those subtrees, and no other: each of those is made once; only
-- such a tree is kept, where it is made; and each tag is referred to.
pub record ShareThose (P : Trees → Type 0) (before : List Sentence) (trees : Trees)
    (moves : List (Move (List ℕ))) : Type 0 where
  pub kept : List Trees
  pub made : Makes before moves none [] trees kept
  pub once : MakeOnce P (visits before moves none [] trees kept made)
  pub marked : KeepMade P (visits before moves none [] trees kept made)
  pub referred : (tag : ℕ) → tag < length kept → Contains moves (again tag)

-- The listed labels are those of the word that weren't seen before, by first use, each once.
abbrev pub AreFirstUses : (seen word listed : List (List ℕ)) → Type 0
AreFirstUses seen [] listed = listed ≡ []
AreFirstUses seen (label ∷ word) listed =
    (Contains seen label × AreFirstUses seen word listed)
    ⊎ (¬ (Contains seen label) × (others : List (List ℕ)) × (listed ≡ label ∷ others)
    × AreFirstUses (label ∷ seen) word others)

-- The listed labels and the codes are the proof of the trees that shares those subtrees: so do its
-- moves, and the list has the labels of the trees that aren't mandatory hypotheses, by first use.
pub record IsSharedProof (P : Trees → Type 0) (before : List Sentence) (s : Sentence)
    (trees : Trees) (listed : List (List ℕ)) (codes : List Code) : Type 0 where
  pub moves : List (Move (List ℕ))
  pub says : PairSays before s listed codes moves
  pub shared : ShareThose P before trees moves
  pub uses : AreFirstUses says.labels (spelling trees) listed

-- they are the fully shared proof of the trees: it shares all that can be shared
abbrev pub IsPacked : (before : List Sentence) (s : Sentence) (trees : Trees)
    (listed : List (List ℕ)) (codes : List Code) → Type 0
IsPacked before s trees listed codes = IsSharedProof IsBig before s trees listed codes

-- so many steps are in the fully shared proof of the tree
abbrev pub HasSteps : (before : List Sentence) → Sentence → Trees → ℕ → Type 0
HasSteps before s t count =
    (listed : List (List ℕ)) × (codes : List Code) × IsPacked before s t listed codes
    × (count ≡ steps_of codes)
