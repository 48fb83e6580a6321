-- So many beginnings so far.
use Rattle.std.proofs.Common.{◌≡◌, length}
use Rattle.std.specs.List.{AllByRecursion}
use Rattle.mm_minimize.proofs.remarks.beginnings.Given as goal

abbrev pub invariant-loop : goal.invariant-loop
invariant-loop l =
    (length l.passed.items ≡ l.counter)
    × AllByRecursion (λ p. (p.at ≡ 0) × (p.mathbox ≡ 0)) l.passed.items
