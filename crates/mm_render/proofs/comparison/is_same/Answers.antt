-- Both make one tree, and so they are compared.
use Rattle.mm_render.proofs.ToldProofs.ComparedTexts.{compared_with}
use Rattle.mm_render.proofs.ToldProofs.ToldTrees.{steps_make}
use Rattle.mm_render.proofs.comparison.is_same.Goals as goal

pub same-requires-clause-first_makes : goal.same-requires-clause-first_makes
same-requires-clause-first_makes c = steps_make c.args.book.now.statements c.args.theorem.now.id.0 c.args.theorem.now.steps c.requires.1

pub same-requires-clause-second_makes : goal.same-requires-clause-second_makes
same-requires-clause-second_makes c = steps_make c.args.book.now.statements c.args.theorem.now.id.0 c.in_ok-steps.steps c.in_ok-steps.ensures.proved

pub returns-clause-compared : goal.returns-clause-compared
returns-clause-compared c =
    let read = c.in_ok-steps.ensures in
    compared_with c.args.profile c.args.book.now.statements c.args.theorem.now.id.0
    c.args.theorem.now.steps.moves c.in_ok-steps.steps c.args.text.now _ read.legal read.profile
    read.said read.form read.proved c.in_ok-same.ensures
