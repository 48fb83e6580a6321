-- A step is by the label, if it is by the number of the statement that has it.
use Rattle.std.proofs.Common.{sym, ◌∙◌}
use Rattle.mm_frame.proofs.Names.LabelNumbers.{numbered_get}
use Rattle.mm_explain.proofs.UnusedLabels.{named_alike, named_none}
use Rattle.mm_explain.proofs.unused.is_named.Goals as goal

pub returns-in-Assertion : goal.returns-in-Assertion
returns-in-Assertion c = λ numbered moves are says.
    let st = c.args.book.now.statements in
    let (index, s, own, labelled, kind) = c.in-Assertion.ensures.found in
    c.contains.ensures ∙ are c.in-Assertion.id.0
    ∙ named_alike st c.find.ensures.sound.0 c.args.label.now c.in-Assertion.id.0 s
    (numbered_get st c.in-Assertion.id.0 index s own) labelled numbered moves says

pub returns-in-Hypothesis : goal.returns-in-Hypothesis
returns-in-Hypothesis c = λ numbered moves are says.
    let st = c.args.book.now.statements in
    let (index, s, own, labelled, kind, active) = c.in-Hypothesis.ensures.found in
    c.contains-in-Hypothesis.ensures ∙ are c.in-Hypothesis.id.0
    ∙ named_alike st c.find.ensures.sound.0 c.args.label.now c.in-Hypothesis.id.0 s
    (numbered_get st c.in-Hypothesis.id.0 index s own) labelled numbered moves says

pub returns-in-None : goal.returns-in-None
returns-in-None c = λ numbered moves are says.
    sym (named_none c.args.book.now.statements c.args.label.now c.in-None.ensures.found numbered
    moves says)
