-- A law of what is told of changes: this project's own.
use Rattle.std.specs.Prelude.{◌≡◌, ◌↔◌, ℕ, List}
use Rattle.mm_base.specs.Statement.{PlainStatement}
use Rattle.mm_frame.specs.Rules.{AllMeant}
use Rattle.mm_step.specs.Tree.{Trees}
use Rattle.mm_rules.specs.Rests.{HasTree}
use Rattle.mm_rules.specs.Verdict.{sentences}
use Rattle.mm_diff.specs.Diff.{TellsChanges, no_changes, sums_line}

-- The statements of two databases say the same, one after the other, and the same ones have
-- complete proofs, which spell the same trees.
pub record HaveSameTrees (statements others : List PlainStatement) : Type 0 where
  pub said : sentences statements ≡ sentences others
  pub trees : (id index : ℕ) (t : Trees)
      → HasTree statements id index t ↔ HasTree others id index t

-- Of such databases no change is told. So it is of a database and its saved, packed, small or
-- normal form.
abbrev pub TellsNothing : Type 0
TellsNothing =
    (old new : List PlainStatement) (text : List ℕ) (status : ℕ) → AllMeant (sentences old)
    → HaveSameTrees old new → TellsChanges old new text status
    → (text ≡ sums_line no_changes) × (status ≡ 0)
