use Rattle.std.proofs.Common.{refl}
use Rattle.mm_step.specs.Moves.{name}
use Rattle.mm_distinct.proofs.LackingPairs.LackingMoves.{sought_over, sought_name}
use Rattle.mm_distinct.proofs.lacking.SeekerMachine.step.Goals as goal

pub returns-then-self-clause-ran : goal.returns-then-self-clause-ran
returns-then-self-clause-ran g c first prefix id there allowed was =
    sought_over g.S.Store.stack g.S.Store.kept first c.args.self.now prefix was (name id)
    c.if-self.true

pub returns-clause-ran : goal.returns-clause-ran
returns-clause-ran g c first prefix id there allowed was =
    let steps = rw was.same_table at c.in_ok-made.ensures.steps in
    sought_name g.S.Store.stack g.S.Store.kept first c.args.self.now prefix was _ c.if-self.false
    c.in_ok-made.made refl refl refl refl id (steps id there) c.step_entry.ensures.kept refl
