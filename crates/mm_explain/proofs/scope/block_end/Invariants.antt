-- Of the blocks that are opened behind the statement so many are open.
use Rattle.std.proofs.Common.{◌+◌, ◌≤◌, List, take, drop}
use Rattle.std.specs.List.{AllZip}
use Rattle.mm_base.specs.Statement.{PlainStatement}
use Rattle.mm_explain.specs.Mirror.Outlined.{IsBrief}
use Rattle.mm_explain.proofs.HypothesisScopes.{IsWithin}
use Rattle.mm_explain.proofs.scope.block_end.Given as goal

abbrev pub invariant-loop-brief : goal.invariant-loop-brief
invariant-loop-brief l =
    (l.inner ≤ l.brief-index)
    × ((statements : List PlainStatement) → AllZip IsBrief statements l.briefs
    → IsWithin (take l.brief-index (drop (l.index + 1) statements)) l.inner)
