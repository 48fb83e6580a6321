-- The range has the numbers that are kept of the proof there.
use Rattle.mm_rules.proofs.Numbers.{uses_there}
use Rattle.mm_rules.proofs.kept.Kept.used.Goals as goal

pub returns : goal.returns
returns c u at n =
    uses_there c.self.inside.used.items c.deref.result.now c.self.inside.proofs.items c.args.at c.index-proof.result.now c.args.self.now u c.self.view_is c.deref.ensures.value c.index-proof.ensures at n
