-- None of the assertions so far has the type code, or just one.
use Rattle.std.proofs.Common.{map, take}
use Rattle.mm_minimize.specs.Mirror.Shortening.{HaveOneCode}
use Rattle.mm_minimize.proofs.ShorterTheorems.LoneUses.{IsOneSoFar}
use Rattle.mm_minimize.proofs.shortening.is_by_one_alone.Given as goal

abbrev pub invariant-loop-id : goal.invariant-loop-id
invariant-loop-id l =
    IsOneSoFar (HaveOneCode l.book.statements l.theorem.0) l.some (map (λ x. x.0) (take l.id-index l.used))
