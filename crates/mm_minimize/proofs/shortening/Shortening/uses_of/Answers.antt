-- The proofs that are kept stand in order.
use Rattle.std.proofs.Common.{◌≡◌, ap}
use Rattle.mm_rules.specs.Conclusion.{Conclusion}
use Rattle.mm_minimize.proofs.shortening.Shortening.uses_of.Goals as goal

pub used_by-requires : goal.used_by-requires
used_by-requires c = c.checked.invariant.backward.rising

pub returns : goal.returns
returns c =
    let uses : c.checked.inside.kept ≡ c.args.self.now.checked.now.uses = ap (λ (v : Conclusion). v.uses) c.checked.view_is in
    rw uses at c.used_by.ensures
