-- One line more is that of the next hypothesis.
use Rattle.std.proofs.lemmas.Option.{slice_get_within}
use Rattle.mm_frame.specs.Numbers.{labelled_sentences}
use Rattle.mm_verdict.specs.Stated.{statement_line}
use Rattle.mm_render.proofs.ToldProofs.ToldStatements.{line_more, told_there}
use Rattle.mm_render.proofs.statement_lines.push_hypotheses.Goals as goal

pub push_statement-requires : goal.push_statement-requires
push_statement-requires c =
    let all = labelled_sentences c.args.book.now.statements in
    let (stated, are) = c.requires in
    let (s, at, there) = told_there (λ h. h.id.0) all c.args.hypotheses.now stated
    c.loop-hypothesis.hypothesis-index _ are c.loop-hypothesis-test.true in
    slice_get_within all _ s there

pub loop-hypothesis-preserved : goal.loop-hypothesis-preserved
loop-hypothesis-preserved c stated are =
    let (s, at, there) = told_there (λ h. h.id.0) (labelled_sentences c.args.book.now.statements)
    c.args.hypotheses.now stated c.loop-hypothesis.hypothesis-index _ are
    c.loop-hypothesis-test.true in
    line_more statement_line stated c.loop-hypothesis.hypothesis-index s c.args.out.now.items
    c.loop-hypothesis.out.items c.push_statement.new.out.items at
    (c.loop-hypothesis.invariant stated are) (c.in_ok-push_statement.ensures s there)
