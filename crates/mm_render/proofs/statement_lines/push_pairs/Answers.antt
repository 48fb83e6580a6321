-- One line more is that of the next pair.
use Rattle.mm_rules.specs.Mirror.Explaining.{named_pairs}
use Rattle.mm_verdict.specs.Stated.{pair_line}
use Rattle.mm_render.proofs.ToldProofs.ToldStatements.{line_more, named_there}
use Rattle.mm_render.proofs.statement_lines.push_pairs.Goals as goal

pub loop-pair-preserved : goal.loop-pair-preserved
loop-pair-preserved c =
    let st = c.args.book.now.statements in
    line_more pair_line (named_pairs st c.args.pairs.now) c.loop-pair.pair-index
    (c.name.result.now, c.name-in-loop-pair.result.now) c.args.out.now.items c.loop-pair.out.items
    c.push_pair.new.out.items
    (named_there st c.args.pairs.now c.loop-pair.pair-index _ c.name.result.now c.name-in-loop-pair.result.now
    c.loop-pair-test.true c.name.ensures c.name-in-loop-pair.ensures)
    c.loop-pair.invariant c.in_ok-push_pair.ensures
