-- The number in the table, and the mark.
use Rattle.std.proofs.Common.{ℕ, sym, subst, ◌∙◌}
use Rattle.mm_diff.specs.Mirror.Twins.{IsTwinAt}
use Rattle.mm_diff.proofs.stays.is_used_alike.Goals as goal

pub returns-then-is_same : goal.returns-then-is_same
returns-then-is_same c = λ marked. (
  subst (λ (n : ℕ). IsTwinAt c.args.twins.now c.args.id.0 n)
      (c.is_same.ensures.0 c.if-is_same.true) c.in-Some.ensures.some,
  sym c.is_marked.ensures ∙ marked,
)
