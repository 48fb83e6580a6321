-- What a judge has made of moves, as the code keeps it: it mirrors the code.
use Rattle.std.specs.Prelude.{◌≡◌, ℕ, ◌+◌, List, length, take}
use Rattle.mm_step.specs.declared.fault.ProofRule.{ProofRule}
use Rattle.mm_proof.specs.declared.judge.Judge.{Judge}
use Rattle.mm_step.specs.Moves.{Move}
use Rattle.mm_step.specs.Proof.{IsWithin, FirstAtMove}
use Rattle.mm_step.specs.Steps.{IsNumberedMove}
use Rattle.mm_step.specs.Mirror.CodeVerify.{all_names_at}
use Rattle.mm_step.specs.Mirror.CodeRun.{HasRun, AreMarked}
use Rattle.mm_step.specs.Mirror.Sites.{ProofSite}

-- the judge has run over the moves since the first state, in the same store and with the same
-- entries, and those are marked that the moves name
pub record HasJudged {S : Type 0} (stack kept : S → List (List ℕ)) (first now : Judge S)
    (prefix : List (Move ℕ)) : Type 0 where
  pub same_store : now.store.ghost_name ≡ first.store.ghost_name
  pub same_marks : now.marks.ghost_name ≡ first.marks.ghost_name
  pub same_table : now.table ≡ first.table
  pub run : let site = first.table.now.site in
      HasRun site.limit site.statements site.index prefix (stack now.store.now)
      (kept now.store.now) now.steps
  pub tags : now.kept ≡ length (kept now.store.now)
  pub long : length now.marks.now.items ≡ length first.table.now.ids
  pub marked : AreMarked first.table.now.ids prefix now.marks.now.items
  pub all : now.steps + now.kept ≡ length prefix

-- The moves ran, and the next one breaks the rule at the step.
pub record BreaksRun (site : ProofSite) (prefix : List (Move ℕ)) (move : Move ℕ)
    (rule : ProofRule) (at : ℕ) : Type 0 where
  pub stack : List (List ℕ)
  pub kept : List (List ℕ)
  pub steps : ℕ
  pub run : HasRun site.limit site.statements site.index prefix stack kept steps
  pub number : at ≡ steps + 1
  pub first : (named : Move (List ℕ)) → IsNumberedMove site.statements move named
      → FirstAtMove (IsWithin site.limit) rule (take site.index site.statements)
      (all_names_at site.statements stack) (all_names_at site.statements kept) named
