-- One line more is that of the next `$d`.
use Rattle.std.proofs.lemmas.Option.{slice_get_within}
use Rattle.mm_verdict.specs.Stated.{further_line}
use Rattle.mm_render.proofs.ToldProofs.ToldStatements.{line_more, number_there}
use Rattle.mm_render.proofs.statement_lines.push_all_further.Goals as goal

pub push_further-requires : goal.push_further-requires
push_further-requires c =
    let all = c.args.book.now.statements in
    let (further, are) = c.requires in
    let (d, at, there) = number_there all c.args.indices.now further c.loop-index.index-index _ are
    c.loop-index-test.true in
    slice_get_within all _ d there

pub loop-index-preserved : goal.loop-index-preserved
loop-index-preserved c further are =
    let (d, at, there) = number_there c.args.book.now.statements c.args.indices.now further
    c.loop-index.index-index _ are c.loop-index-test.true in
    line_more further_line further c.loop-index.index-index d c.args.out.now.items
    c.loop-index.out.items c.push_further.new.out.items at
    (c.loop-index.invariant further are) (c.in_ok-push_further.ensures d there)
