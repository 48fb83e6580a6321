-- The proofs before this index were passed.
use Rattle.std.proofs.Common.{map}
use Rattle.mm_axioms.proofs.Resting.UsersOf.{IsPassed}
use Rattle.mm_axioms.proofs.users.all_users_among.Given as goal

abbrev pub invariant-loop-at : goal.invariant-loop-at
invariant-loop-at l =
    IsPassed l.kept l.assertion.0 l.at l.marks.items (map (λ id. id.0) l.users.items)
