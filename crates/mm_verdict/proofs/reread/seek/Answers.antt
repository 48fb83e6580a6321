-- The statement that is sought is met before the end.
use Rattle.std.proofs.Common.{Bool, true, subst}
use Rattle.mm_base.specs.Statement.{PlainStatement, plain_statement}
use Rattle.mm_text.specs.Remaining.{ReadsOn}
use Rattle.mm_verdict.proofs.Verdicts.AcceptedStatements.{sought_on, sought_found}
use Rattle.mm_verdict.proofs.reread.seek.Goals as goal

pub returns-then-has_label-clause-found : goal.returns-then-has_label-clause-found
returns-then-has_label-clause-found c =
    let s : PlainStatement = plain_statement c.more.new.into in
    let taken : ReadsOn c.loop-into.statements true s c.more.new.self =
    subst (λ (b : Bool). ReadsOn c.loop-into.statements b s c.more.new.self) c.if-branch.true c.in_ok-more.ensures.on in
    sought_found c.args.label.now c.args.statements.now c.loop-into.statements c.more.new.self s c.loop-into.invariant taken (c.has_label.ensures.0 c.if-has_label.true)

pub loop-into-preserved : goal.loop-into-preserved
loop-into-preserved c =
    let s : PlainStatement = plain_statement c.more.new.into in
    let taken : ReadsOn c.loop-into.statements true s c.more.new.self =
    subst (λ (b : Bool). ReadsOn c.loop-into.statements b s c.more.new.self) c.if-branch.true c.in_ok-more.ensures.on in
    sought_on c.args.label.now c.args.statements.now c.loop-into.statements c.more.new.self s c.loop-into.invariant taken
    (λ named. let t = c.has_label.ensures.1 named in absurd (let f = c.if-has_label.false in cc))
