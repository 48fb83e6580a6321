-- As that which the table has.
use Rattle.mm_diff.proofs.OneAssertions.{one_labelled, one_turned}
use Rattle.mm_diff.proofs.stays.stays.Goals as goal

pub stays_as-requires-clause-former : goal.stays_as-requires-clause-former
stays_as-requires-clause-former c =
    let one = (c.requires.twins c.args.id.0 c.in-Some.former.0).0 c.in-Some.ensures.some in
    one_labelled c.args.old.now.sentences c.args.new.now.sentences c.in-Some.former.0 c.args.id.0
    (one_turned c.args.new.now.sentences c.args.old.now.sentences c.args.id.0
    c.in-Some.former.0 one)

pub returns-in-Some : goal.returns-in-Some
returns-in-Some c = λ holds.
    (c.in-Some.former.0, c.in-Some.ensures.some, c.stays_as.ensures holds)
