-- By whether variants are asked for.
use Rattle.mm_code.specs.Layout.{texts}
use Rattle.mm_find.proofs.Replies.{shapes_query, variants_query}
use Rattle.mm_find.proofs.reply.query_for.Goals as goal

pub returns-then-sought : goal.returns-then-sought
returns-then-sought c =
    variants_query (texts c.args.sought.now.patterns.now) c.args.sought.now.whole
    c.args.sought.now.shape c.args.sought.now.hypotheses _ c.if-sought.true
    c.in_ok-variants_for.ensures

pub returns : goal.returns
returns c =
    shapes_query (texts c.args.sought.now.patterns.now) c.args.sought.now.whole
    c.args.sought.now.shape c.args.sought.now.hypotheses _ c.if-sought.false
    c.in_ok-shapes_for.ensures
