-- The users among the proofs so far.
use Rattle.std.proofs.Common.{map, take}
use Rattle.mm_rules.specs.Rests.{AreInOrder}
use Rattle.mm_rules.specs.Mirror.Marks.{UsedIn}
use Rattle.mm_axioms.proofs.users.users_among.Given as goal

abbrev pub invariant-loop-at : goal.invariant-loop-at
invariant-loop-at l =
    AreInOrder (λ n. UsedIn (take l.at l.kept) n l.assertion.0) (map (λ id. id.0) l.users.items)
