-- The numbers are in range, as the value keeps them.
use Rattle.std.proofs.Common.{◌<◌, length, subst}
use Rattle.std.specs.List.{AllByRecursion}
use Rattle.mm_rules.specs.Conclusion.{Conclusion}
use Rattle.mm_verdict.proofs.checked.Checked.incomplete.Goals as goal

pub returns-clause-in_range : goal.returns-clause-in_range
returns-clause-in_range c =
    let InRange : Conclusion → Type 0 = λ v. AllByRecursion (λ n. n < length v.labels) v.incomplete in
    subst InRange c.self.view_is c.self.invariant.in_range
