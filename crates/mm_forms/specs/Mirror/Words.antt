-- Where the words of trees stand in the word of moves, as the code keeps it: it mirrors the code.
use Rattle.std.specs.Prelude.{◌≡◌, ℕ, ◌+◌, ◌≤◌, List, [], ◌∷◌, ◌++◌, length}
use Rattle.std.specs.List.{AllZip}
use Rattle.mm_frame.specs.declared.number.LabelId.{LabelId}
use Rattle.mm_frame.specs.Sentence.{Sentence}
use Rattle.mm_step.specs.Tree.{Trees, none, tree, spelling}
use Rattle.mm_forms.specs.Spelled.{AreLabelsOf}
use Rattle.mm_step.specs.declared.fault.ExpandFault.{ExpandFault}
use Rattle.mm_step.specs.declared.fault.ExpandFault.TheVariants.{L2, Memory}
use Rattle.mm_forms.specs.declared.words.Part.{Part}
use Rattle.mm_forms.specs.declared.words.Length.{Length}

-- these parts are the words of the trees side by side, from this index on
abbrev pub AreParts : (start : ℕ) → List Part → Trees → Type 0
AreParts start [] none = Unit {0}
AreParts start [] (tree label below right) = ⊥
AreParts start (part ∷ parts) none = ⊥
AreParts start (part ∷ parts) (tree label below right) =
    (part.start ≡ start) × (part.end ≡ start + length (spelling below) + 1)
    × AreParts part.end parts right

-- the part of the word spells the tree
pub record IsPartOf (word : List (List ℕ)) (part : Part) (t : Trees) : Type 0 where
  pub prefix : List (List ℕ)
  pub back : List (List ℕ)
  pub whole : word ≡ prefix ++ (spelling t ++ back)
  pub start : part.start ≡ length prefix
  pub end : part.end ≡ length prefix + length (spelling t)

-- the parts are those of the trees of the row, and of those that are kept
pub record ArePartsOf (stack : List Part) (row : Trees) (shelf : List Part) (kept : List Trees)
    : Type 0 where
  pub parts : AreParts 0 stack row
  pub shelved : AllZip (IsPartOf (spelling row)) shelf kept

-- the fault is that there are more labels than are allowed
abbrev pub IsLong : ExpandFault → Type 0
IsLong L2 = Unit {0}
IsLong Memory = ⊥

-- so many labels does the row spell, within the most that there were at first
pub record IsLengthOf (first now : Length) (stack : List Part) (row : Trees) (shelf : List Part)
    (kept : List Trees) : Type 0 where
  pub same : now.max ≡ first.max
  pub count : now.count ≡ length (spelling row)
  pub within : now.count ≤ now.max
  pub parts : ArePartsOf stack row shelf kept

-- the row spells these labels
pub record AreLabelsOfWord (statements : List Sentence) (labels : List LabelId) (stack : List Part)
    (row : Trees) (shelf : List Part) (kept : List Trees) : Type 0 where
  pub labels_are : AreLabelsOf statements labels (spelling row)
  pub parts : ArePartsOf stack row shelf kept
