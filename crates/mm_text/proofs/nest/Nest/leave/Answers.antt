use Rattle.std.proofs.Common.{refl}
use Rattle.mm_text.proofs.Inclusions.OpenFiles.{leaves_to}
use Rattle.mm_text.proofs.nest.Nest.leave.Goals as goal

pub returns-in-Some-clause-leaves : goal.returns-in-Some-clause-leaves
returns-in-Some-clause-leaves c =
    let e = rw c.in-Some.is at c.pop.ensures.items in
    leaves_to c.args.self.now (record c.args.self.now { position = c.in-Some.position; «open» = c.pop.new.self }) c.in-Some.position c.requires.over c.requires.naming e refl
