-- The theorem may use those so far.
use Rattle.std.proofs.Common.{ℕ, map, take, Contains}
use Rattle.mm_minimize.specs.Mirror.Shortening.{IsAllowedIn}
use Rattle.mm_minimize.proofs.shortening.Shortening.are_allowed.Given as goal

abbrev pub invariant-loop-id : goal.invariant-loop-id
invariant-loop-id l =
    (n : ℕ) → Contains (map (λ id. id.0) (take l.id-index l.used)) n
    → IsAllowedIn l.self.checked.now.files l.theorem.0 n
