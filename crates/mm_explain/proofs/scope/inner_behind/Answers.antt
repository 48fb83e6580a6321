-- One block more is open behind a `${`, and one less behind a `$}`.
use Rattle.std.proofs.Common.{arith, sym, ◌∙◌}
use Rattle.mm_text.proofs.Reader.OpenBlocks.{closing_count, opening_count}
use Rattle.mm_explain.proofs.HypothesisScopes.{no_count}
use Rattle.mm_explain.proofs.scope.inner_behind.Goals as goal

pub returns-in-Opening-clause-counted : goal.returns-in-Opening-clause-counted
returns-in-Opening-clause-counted c = λ s is.
    let (o, n) = opening_count s (is ∙ c.in-Opening.is) in omega (arith, o, n)

pub returns-then-inner-eq0-clause-counted : goal.returns-then-inner-eq0-clause-counted
returns-then-inner-eq0-clause-counted c = λ s is. (c.in-Closing.is, c.if-inner-eq0.true)

pub returns-else-inner-eq0-clause-counted : goal.returns-else-inner-eq0-clause-counted
returns-else-inner-eq0-clause-counted c = λ s is.
    let (o, n) = closing_count s (is ∙ c.in-Closing.is) in
    omega (arith, o, n, c.if-inner-eq0.false)

pub returns-in_default-clause-counted : goal.returns-in_default-clause-counted
returns-in_default-clause-counted c = λ s is.
    let (o, n) = no_count s (λ e. c.in_default.not-Opening (sym is ∙ e))
    (λ e. c.in_default.not-Closing (sym is ∙ e)) in
    omega (arith, o, n)
