-- What the code knows of steps that share what is worth a tag alone: it mirrors the code.
use Rattle.std.specs.Prelude.{◌≡◌, ℕ, List, [], ◌∷◌, ◌++◌, ◌⊎◌}
use Rattle.mm_code.specs.declared.code.Code.{Code}
use Rattle.mm_frame.specs.Sentence.{Sentence}
use Rattle.mm_step.specs.Tree.{Trees}
use Rattle.mm_forms.specs.BigSubtrees.{IsBig}
use Rattle.mm_forms.specs.ChosenSharing.{IsWorthATag}
use Rattle.mm_forms.specs.declared.subtrees.Subtree.{Subtree}
use Rattle.mm_forms.specs.declared.subtrees.Row.{Row}
use Rattle.mm_forms.specs.declared.sharing.SharedStep.{SharedStep}
use Rattle.mm_forms.specs.declared.sharing.SharedStep.TheVariants as step
use Rattle.mm_forms.specs.declared.sharing.SharedSteps.{SharedSteps}
use Rattle.mm_forms.specs.Mirror.Subtrees.{IsOverLeaf}
use Rattle.mm_forms.specs.Mirror.CodeSharing.{AreSharedSteps, AreStepsPacked}

-- A step that repeats a tree of two nodes is written out: a step makes its leaf, and one the tree.
-- Another stays as it is.
abbrev pub IsWrittenOut : List Row → SharedStep → List SharedStep → Type 0
IsWrittenOut rows (step.Make t) here = here ≡ step.Make t ∷ []
IsWrittenOut rows (step.Repeat t) here =
    ((leaf : Subtree) × IsOverLeaf rows t leaf × (here ≡ step.Make leaf ∷ step.Make t ∷ []))
    ⊎ (((leaf : Subtree) → ¬ (IsOverLeaf rows t leaf)) × (here ≡ step.Repeat t ∷ []))

-- the steps are, one after the other
abbrev pub AreWrittenOut : List Row → List SharedStep → List SharedStep → Type 0
AreWrittenOut rows [] new = new ≡ []
AreWrittenOut rows (one ∷ steps) new =
    (here : List SharedStep) × (later : List SharedStep) × (new ≡ here ++ later)
    × IsWrittenOut rows one here × AreWrittenOut rows steps later

-- the listed numbers and the codes say steps for these trees that share what is worth a tag alone
abbrev pub ChoosesPacked : SharedSteps → (hypotheses listed : List ℕ) → List Code → Type 0
ChoosesPacked shared hypotheses listed codes =
    (statements : List Sentence) (trees : Trees)
    → AreSharedSteps IsBig statements shared.table trees shared.steps.items
    → (fewer : List SharedStep)
    × AreSharedSteps IsWorthATag statements shared.table trees fewer
    × AreStepsPacked hypotheses fewer listed codes
