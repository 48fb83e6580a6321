-- By what the proof came to.
use Rattle.std.proofs.Common.{Ok, Err, ap, ◌∙◌}
use Rattle.mm_base.specs.Statement.{plain_statement}
use Rattle.mm_axioms.proofs.AcceptedProofs.{tells_complete, tells_incomplete, tells_refused}
use Rattle.mm_axioms.proofs.accepted_uses.is_accepted.Goals as goal

pub returns-in-Ok-Complete-clause-told : goal.returns-in-Ok-Complete-clause-told
returns-in-Ok-Complete-clause-told c =
    tells_complete c.args.prover.now.book.statements c.args.id.0
    (plain_statement c.args.statement.now) c.requires.last c.tried.result
    c.tried.new.prover.used c.tried.ensures.judged
    (c.in-Ok-Complete.is ∙ ap Ok c.in-Ok-Complete.field-0-is)

pub returns-in-Ok-Incomplete-clause-told : goal.returns-in-Ok-Incomplete-clause-told
returns-in-Ok-Incomplete-clause-told c =
    tells_incomplete c.args.prover.now.book.statements c.args.id.0
    (plain_statement c.args.statement.now) c.requires.last c.tried.result
    c.tried.new.prover.used c.tried.ensures.judged
    (c.in-Ok-Incomplete.is ∙ ap Ok c.in-Ok-Incomplete.field-0-is)

pub returns-in-Err-Rule-clause-told : goal.returns-in-Err-Rule-clause-told
returns-in-Err-Rule-clause-told c =
    tells_refused c.args.prover.now.book.statements c.args.id.0
    (plain_statement c.args.statement.now) c.requires.last c.tried.result
    c.tried.new.prover.used c.tried.ensures.accepts _ _
    (c.in-Err-Rule.is ∙ ap Err c.in-Err-Rule.field-0-is)
