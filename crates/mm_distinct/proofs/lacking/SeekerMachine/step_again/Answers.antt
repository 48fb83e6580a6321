use Rattle.std.proofs.Common.{refl}
use Rattle.mm_step.specs.Moves.{again}
use Rattle.mm_distinct.proofs.LackingPairs.LackingMoves.{sought_over, sought_again}
use Rattle.mm_distinct.proofs.lacking.SeekerMachine.step_again.Goals as goal

pub returns-then-self-clause-ran : goal.returns-then-self-clause-ran
returns-then-self-clause-ran g c first prefix allowed was =
    sought_over g.S.Store.stack g.S.Store.kept first c.args.self.now prefix was (again c.args.tag)
    c.if-self.true

pub returns-clause-ran : goal.returns-clause-ran
returns-clause-ran g c first prefix allowed was =
    sought_again g.S.Store.stack g.S.Store.kept first c.args.self.now prefix was _ c.if-self.false
    c.in_ok-made.made refl refl refl refl refl c.args.tag c.in_ok-made.ensures.steps
    c.step_by_tag.ensures.kept refl
