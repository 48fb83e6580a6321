-- By what has the label in the other database.
use Rattle.mm_alike.proofs.KeptWidths.{keeps_found, keeps_none}
use Rattle.mm_alike.proofs.widths.keeps_width.Goals as goal

pub have_one_width-requires-clause-other : goal.have_one_width-requires-clause-other
have_one_width-requires-clause-other c =
    let (index, s, numbered, named, kind) = c.in-Assertion.ensures.found in (index, s, numbered)

pub have_one_width-requires-in-Hypothesis-clause-other :
    goal.have_one_width-requires-in-Hypothesis-clause-other
have_one_width-requires-in-Hypothesis-clause-other c =
    let (index, s, numbered, named, kind, active) = c.in-Hypothesis.ensures.found in
    (index, s, numbered)

pub returns-in-Assertion : goal.returns-in-Assertion
returns-in-Assertion c = λ t.
    let (index, s, numbered, named, kind) = c.in-Assertion.ensures.found in
    keeps_found c.args.book.now.statements c.args.other.now.statements c.args.id.0
    c.in-Assertion.named.0 c.label.result.now s index c.find.ensures.sound.0
    (λ u at. c.label.ensures u at) numbered named (c.have_one_width.ensures.0 t)

pub returns-in-Hypothesis : goal.returns-in-Hypothesis
returns-in-Hypothesis c = λ t.
    let (index, s, numbered, named, kind, active) = c.in-Hypothesis.ensures.found in
    keeps_found c.args.book.now.statements c.args.other.now.statements c.args.id.0
    c.in-Hypothesis.named.0 c.label.result.now s index c.find.ensures.sound.0
    (λ u at. c.label.ensures u at) numbered named (c.have_one_width-in-Hypothesis.ensures.0 t)

pub returns-in-None : goal.returns-in-None
returns-in-None c = λ t.
    keeps_none c.args.book.now.statements c.args.other.now.statements c.args.id.0
    c.label.result.now (λ u at. c.label.ensures u at) c.in-None.ensures.found
