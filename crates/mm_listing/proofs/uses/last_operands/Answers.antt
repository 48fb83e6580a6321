use Rattle.std.proofs.Common.{◌≡◌, ◌-◌, List, ℕ, length, take, drop, arith}
use Rattle.std.proofs.lemmas.List.{length-drop, take_all}
use Rattle.mm_listing.proofs.uses.last_operands.Goals as goal

-- what is left behind an index, all of it
rest : (base : ℕ) (origins : List ℕ) → take (length origins - base) (drop base origins) ≡ drop base
    origins
rest base origins =
    take_all (length origins - base) (drop base origins) (omega (arith, length-drop base origins))

pub operands-requires : goal.operands-requires
operands-requires c = rw (rest c.args.base c.args.origins.now) c.requires.within

pub returns : goal.returns
returns c = rw (rest c.args.base c.args.origins.now) at c.operands.ensures
