-- The steps are those that the tokens say, and so they prove the theorem.
use Rattle.mm_base.specs.Statement.{plain_statement}
use Rattle.mm_rules.specs.Verdict.{proof_of}
use Rattle.mm_verdict.specs.Mirror.Theorems.{SayStepsOf}
use Rattle.mm_verdict.proofs.Questions.AskedTheorems.{steps_prove}
use Rattle.mm_verdict.proofs.theorem.read_theorem.Goals as goal

pub returns-clause-said : goal.returns-clause-said
returns-clause-said c = λ index s number. let told = c.in_ok-steps.ensures.said index s number in (told.1, told.2, told.3)

pub returns-clause-theorem : goal.returns-clause-theorem
returns-clause-theorem c =
    let tokens = proof_of (plain_statement c.args.statement.now) in
    let said : SayStepsOf c.args.book.now.statements c.args.id.0 tokens c.in_ok-steps.steps.moves =
    λ index s number. let told = c.in_ok-steps.ensures.said index s number in (told.1, told.2, told.3) in
    let proved = steps_prove c.args.profile c.args.book.now.statements c.args.id.0 tokens
    c.in_ok-steps.steps c.requires.proof c.in_ok-steps.ensures.profile said in
    (c.in_ok-steps.ensures.usable, proved, c.in_ok-steps.ensures.whole)
