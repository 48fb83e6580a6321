-- The labels that moves spell: which trees those make that pass, and what a fault of expanding is
-- told as.
use Rattle.std.proofs.Common.{◌≡◌, ◌⊎◌, ℕ, List, Result, Err, inl, inr, refl}
use Rattle.mm_frame.specs.Sentence.{Sentence}
use Rattle.mm_step.specs.Moves.{Move}
use Rattle.mm_step.specs.Substitution.{Expression}
use Rattle.mm_step.specs.Tree.{Trees}
use Rattle.mm_step.specs.declared.fault.ExpandFault.{ExpandFault}
use Rattle.mm_step.specs.declared.fault.ExpandFault.TheVariants as expand
use Rattle.mm_proof.specs.CheckedPrefix.{Pass}
use Rattle.mm_forms.specs.OneTree.{MakeRow}
use Rattle.mm_rules.specs.declared.ask.AskFault.TheVariants.{Rule, Memory}
use Rattle.mm_rules.specs.declared.rule.AskRule.TheVariants.{L2}
use Rattle.mm_rules.specs.Forms.{expand_fault}

-- moves that pass make a row of trees
pub passed_row : (Fits : Expression → Type 0) (before : List Sentence)
    (moves : List (Move (List ℕ))) → Pass Fits before moves
    → (row : Trees) × MakeRow before moves row
passed_row Fits before moves (stack, kept, passed) =
    (passed.trees, record { kept = passed.shelf; made = passed.made })

-- what a fault of expanding is told as
pub expand_told : {X Over : Type 0} (r : Result X ExpandFault) (fault : ExpandFault) → r ≡ Err fault
    → (r ≡ Err expand.L2 → Over)
    → (expand_fault fault ≡ Memory) ⊎ ((expand_fault fault ≡ Rule L2) × Over)
expand_told r expand.L2 is over = inr (refl, over is)
expand_told r expand.Memory is over = inl refl
