-- By what the old database has under the label.
use Rattle.mm_with_lemmas.proofs.FoundedTheorems.{former_is, former_lacks}
use Rattle.mm_with_lemmas.proofs.founded.former_of.Goals as goal

pub returns-in-Assertion-clause-some : goal.returns-in-Assertion-clause-some
returns-in-Assertion-clause-some c =
    let (index, s, numbered, labelled, kind) = c.in-Assertion.ensures.found in
    former_is c.args.old.now.statements c.args.new.now.statements c.label.result.now c.args.id.0
    c.label.ensures c.in-Assertion.former.0 (index, s, numbered, labelled)

pub returns-in-Hypothesis-clause-some : goal.returns-in-Hypothesis-clause-some
returns-in-Hypothesis-clause-some c =
    let (index, s, numbered, labelled, kind, active) = c.in-Hypothesis.ensures.found in
    former_is c.args.old.now.statements c.args.new.now.statements c.label.result.now c.args.id.0
    c.label.ensures c.in-Hypothesis.former.0 (index, s, numbered, labelled)

pub returns-in-None-clause-none : goal.returns-in-None-clause-none
returns-in-None-clause-none c = λ none.
    former_lacks c.args.old.now.statements c.args.new.now.statements c.label.result.now c.args.id.0
    c.label.ensures c.in-None.ensures.found
