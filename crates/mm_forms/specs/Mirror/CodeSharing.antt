-- What the code of fully shared proofs knows on its way: it mirrors the code.
use Rattle.std.specs.Prelude.{◌≡◌, ◌≢◌, ℕ, ◌+◌, ◌-◌, ◌≤◌, List, [], ◌∷◌, ◌++◌, length, take, slice_get}
use Rattle.std.specs.Prelude.{Contains, Some, ◌⊎◌, ◌↔◌}
use Rattle.std.specs.List.{AllZip}
use Rattle.mm_code.specs.declared.code.Code.{Code}
use Rattle.mm_code.specs.declared.code.Code.TheVariants.{Number, Tag}
use Rattle.mm_frame.specs.Sentence.{Sentence}
use Rattle.mm_frame.specs.Rules.{AllMeant}
use Rattle.mm_step.specs.Tree.{Trees, none, tree}
use Rattle.mm_forms.specs.BigSubtrees.{IsBig}
use Rattle.mm_forms.specs.Visits.{Visit, makes, repeats}
use Rattle.mm_proof.specs.Mirror.SharedSteps.{In}
use Rattle.mm_forms.specs.Mirror.SharedSteps.{Covers, Careful, after}
use Rattle.mm_forms.specs.Mirror.Subtrees.{IsTreeOf, AreSubtreesOf, AreOnce}
use Rattle.mm_forms.specs.declared.subtrees.Subtree.{Subtree}
use Rattle.mm_forms.specs.declared.subtrees.Row.{Row}
use Rattle.mm_forms.specs.declared.sharing.SharedStep.{SharedStep}
use Rattle.mm_forms.specs.declared.sharing.SharedSteps.{SharedSteps}
use Rattle.mm_forms.specs.declared.sharing.SharedStep.TheVariants as step

-- it is put behind the others, if it isn't among them
abbrev pub Adds : {X : Type 0} → List X → X → List X → Type 0
Adds old x new =
    (Contains old x × (new ≡ old)) ⊎ (¬ (Contains old x) × (new ≡ old ++ x ∷ []))

-- what a step does, by numbers and by trees
abbrev pub IsStepOf : List Sentence → List Row → SharedStep → Visit → Type 0
IsStepOf statements rows (step.Make t) v =
    (label : List ℕ) × (below : Trees) × IsTreeOf statements rows t label below
    × (v ≡ makes (tree label below none))
IsStepOf statements rows (step.Repeat t) v =
    (label : List ℕ) × (below : Trees) × IsTreeOf statements rows t label below
    × (v ≡ repeats (tree label below none))

-- the steps put the trees side by side, and share those subtrees
pub record AreSharedSteps (P : Trees → Type 0) (statements : List Sentence) (rows : List Row)
    (trees : Trees) (steps : List SharedStep) : Type 0 where
  pub visits : List Visit
  pub said : AllZip (IsStepOf statements rows) steps visits
  pub covers : Covers trees visits
  pub careful : Careful P [] visits

-- the steps put some trees side by side, and share all that can be shared
pub record ShareSomeTrees (shared : SharedSteps) : Type 0 where
  pub statements : List Sentence
  pub trees : Trees
  pub meant : AllMeant statements
  pub once : AreOnce shared.table
  pub steps : AreSharedSteps IsBig statements shared.table trees shared.steps.items

-- the step by which a tree stands there again
abbrev pub IsRepeat : Subtree → SharedStep → Type 0
IsRepeat t one =
    ((t.below ≡ 0) × (one ≡ step.Make t)) ⊎ ((t.below ≢ 0) × (one ≡ step.Repeat t))

-- How a step by a label changes the steps, and the trees of two or more nodes that were made: it
-- makes a leaf; it takes the place of the last steps, where the tree was made; or it makes the
-- tree.
abbrev pub Shares : Subtree → (count : ℕ) → (steps : List SharedStep) → (made : List Subtree)
    → (steps' : List SharedStep) → (made' : List Subtree) → Type 0
Shares t count steps made steps' made' =
    ((t.below ≡ 0) × (steps' ≡ steps ++ step.Make t ∷ []) × (made' ≡ made))
    ⊎ ((t.below ≢ 0) × Contains made t
    × (steps' ≡ take (length steps - count) steps ++ step.Repeat t ∷ []) × (made' ≡ made))
    ⊎ ((t.below ≢ 0) × ¬ (Contains made t) × (steps' ≡ steps ++ step.Make t ∷ [])
    × (made' ≡ made ++ t ∷ []))

-- the steps cover the row, and what is kept and is big was made
pub record Sharing (row : Trees) (kept : List Trees) (v : List Visit) : Type 0 where
  pub covers : Covers row v
  pub careful : Careful IsBig [] v
  pub kept_made : (t : Trees) → In kept t → IsBig t → In (after [] v) t

-- they do, and these are the big trees that they make
pub record SharingSteps (statements : List Sentence) (rows : List Row) (steps : List SharedStep)
    (keys : List Subtree) (row : Trees) (kept : List Trees) : Type 0 where
  pub v : List Visit
  pub are : AllZip (IsStepOf statements rows) steps v
  pub sharing : Sharing row kept v
  pub known :
      (label : List ℕ) (below : Trees) → IsBig (tree label below none)
      → In (after [] v) (tree label below none)
      → (t : Subtree) × Contains keys t × IsTreeOf statements rows t label below
  pub only :
      (t : Subtree) → Contains keys t
      → (label : List ℕ) × (below : Trees) × IsTreeOf statements rows t label below
      × IsBig (tree label below none) × In (after [] v) (tree label below none)

-- the subtrees are the trees of the row and those that are kept, and the steps, so many at most,
-- share all that can be shared
pub record ShareSteps (first now : SharedSteps) (statements : List Sentence)
    (stack : List Subtree) (row : Trees) (shelf : List Subtree) (kept : List Trees)
    (steps : ℕ) : Type 0 where
  pub subtrees : AreSubtreesOf first.table now.table statements stack row shelf kept
  pub few : length now.steps.items ≤ steps
  pub shared : AllMeant statements → SharingSteps statements now.table now.steps.items now.made row kept

-- each tree that a step repeats was made by a step before
abbrev pub AreMadeBefore : List SharedStep → Type 0
AreMadeBefore steps =
    (i : ℕ) (t : Subtree) → slice_get steps i ≡ Some (step.Repeat t)
    → Contains (take i steps) (step.Make t)

-- the numbers of the labels by which the steps make trees, in order
abbrev pub labels_made : List SharedStep → List ℕ
labels_made [] = []
labels_made (step.Make t ∷ steps) = t.label ∷ labels_made steps
labels_made (step.Repeat t ∷ steps) = labels_made steps

-- The listed numbers are those that weren't seen before, by first use, each once.
abbrev pub AreFirstNumbers : (seen numbers listed : List ℕ) → Type 0
AreFirstNumbers seen [] listed = listed ≡ []
AreFirstNumbers seen (n ∷ numbers) listed =
    (Contains seen n × AreFirstNumbers seen numbers listed)
    ⊎ (¬ (Contains seen n) × (others : List ℕ) × (listed ≡ n ∷ others)
    × AreFirstNumbers (n ∷ seen) numbers others)

-- How a step is said, and how it changes the trees that are tagged: a step by a label is said by
-- the index of this label, with a tag behind it where its tree is repeated; another is said by the
-- index of its tree among those that are tagged.
abbrev pub IsEncoded : (labels : List ℕ) → (repeated kept : List Subtree) → SharedStep
    → (codes : List Code) → (kept' : List Subtree) → Type 0
IsEncoded labels repeated kept (step.Make t) codes kept' =
    (index : ℕ) × (slice_get labels index ≡ Some t.label)
    × ((Contains repeated t × (codes ≡ Number (index + 1) ∷ Tag ∷ []) × Adds kept t kept')
    ⊎ (¬ (Contains repeated t) × (codes ≡ Number (index + 1) ∷ []) × (kept' ≡ kept)))
IsEncoded labels repeated kept (step.Repeat t) codes kept' =
    (tag : ℕ) × (slice_get kept tag ≡ Some t)
    × (codes ≡ Number (length labels + tag + 1) ∷ []) × (kept' ≡ kept)

-- how the steps are, one after the other
abbrev pub AreEncoded : (labels : List ℕ) → (repeated kept : List Subtree) → List SharedStep
    → (codes : List Code) → (kept' : List Subtree) → Type 0
AreEncoded labels repeated kept [] codes kept' = (codes ≡ []) × (kept' ≡ kept)
AreEncoded labels repeated kept (one ∷ steps) codes kept' =
    (here : List Code) × (next : List Subtree) × (later : List Code) × (codes ≡ here ++ later)
    × IsEncoded labels repeated kept one here next
    × AreEncoded labels repeated next steps later kept'

-- the listed numbers and the codes say the steps, where the hypotheses have these numbers
pub record AreStepsPacked (hypotheses : List ℕ) (steps : List SharedStep) (listed : List ℕ)
    (codes : List Code) : Type 0 where
  pub given : List ℕ
  pub own : AreFirstNumbers [] hypotheses given
  pub others : AreFirstNumbers given (labels_made steps) listed
  pub repeated : List Subtree
  pub each : (t : Subtree) → Contains repeated t ↔ Contains steps (step.Repeat t)
  pub kept : List Subtree
  pub said : AreEncoded (given ++ listed) repeated [] steps codes kept
