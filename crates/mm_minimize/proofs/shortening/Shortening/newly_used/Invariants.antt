-- Those among the numbers so far that the proof doesn't use.
use Rattle.std.proofs.Common.{map, take, Contains}
use Rattle.mm_rules.specs.Mirror.Marks.{UsedIn}
use Rattle.mm_rules.specs.Rests.{AreInOrder}
use Rattle.mm_minimize.proofs.shortening.Shortening.newly_used.Given as goal

abbrev pub invariant-loop-id : goal.invariant-loop-id
invariant-loop-id l =
    AreInOrder (λ n. Contains (map (λ x. x.0) (take l.id-index l.used)) n
    × ¬ (UsedIn l.self.checked.now.uses l.fn.theorem.0 n)) (map (λ x. x.0) l.newly.items)
