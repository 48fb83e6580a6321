-- The lines so far are those of the pairs so far.
use Rattle.std.proofs.Common.{◌≡◌, ◌++◌, take}
use Rattle.std.specs.List.{flat_map}
use Rattle.mm_rules.specs.Mirror.Explaining.{named_pairs}
use Rattle.mm_verdict.specs.Stated.{pair_line}
use Rattle.mm_render.proofs.statement_lines.push_pairs.Given as goal

abbrev pub invariant-loop-pair : goal.invariant-loop-pair
invariant-loop-pair l =
    l.out.items ≡ l.fn.out.items ++ flat_map pair_line (take l.pair-index (named_pairs l.book.statements l.pairs))
