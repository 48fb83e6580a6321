-- Those so far and those left are all.
use Rattle.std.proofs.Common.{refl, arith}
use Rattle.mm_base.specs.Statement.{plain_statement}
use Rattle.mm_text.proofs.PassedStatements.{all_over, many_over, next_over, none_over, one_over}
use Rattle.mm_text.proofs.passing.pass_next.Goals as goal

pub loop-init : goal.loop-init
loop-init g c =
    none_over g.V.Passing.has_passed c.args.statements.now.statements c.args.visitor.now
    c.args.statements.now refl c.requires

pub pass-requires : goal.pass-requires
pass-requires g c κs = (
  (refl, tt),
  next_over g.V.Passing.has_passed c.args.statements.now.statements c.args.visitor.now
      c.loop.counter c.loop.visitor c.loop.statements (plain_statement c.more.new.into)
      c.loop.invariant (omega (arith, c.loop-test.true, c.ranges.count.fits))
      (c.in_ok-more.ensures.formed (rw c.if-not-branch.false refl)),
)

pub loop-preserved : goal.loop-preserved
loop-preserved g c =
    one_over g.V.Passing.has_passed c.args.statements.now.statements c.args.visitor.now
    c.loop.counter c.loop.visitor c.pass.new.self c.loop.statements c.more.new.self
    (plain_statement c.more.new.into) c.loop.invariant
    (rw c.if-not-branch.false at c.in_ok-more.ensures.on) c.in_ok-pass.ensures

pub returns-then-not-branch : goal.returns-then-not-branch
returns-then-not-branch g c =
    all_over g.V.Passing.has_passed c.args.statements.now.statements c.args.visitor.now
    c.args.count c.loop.counter c.loop.visitor c.loop.statements c.loop.invariant
    (omega (arith, c.loop-test.true)) (rw c.if-not-branch.true at c.in_ok-more.ensures.on).0

pub returns : goal.returns
returns g c =
    many_over g.V.Passing.has_passed c.args.statements.now.statements c.args.visitor.now
    c.args.count c.loop.counter c.loop.visitor c.loop.statements c.loop.invariant (omega arith)
