-- Reading on leaves the ending.
use Rattle.std.proofs.Common.{◌∙◌, ap}
use Rattle.mm_text.specs.Remaining.{Remaining}
use Rattle.mm_explain.proofs.text_fault.read_out.Goals as goal

pub loop-preserved : goal.loop-preserved
loop-preserved c =
    let on = rw c.if-branch.true at c.in_ok-more.ensures.on in
    ap (λ (r : Remaining). r.ending) on.1 ∙ c.loop.invariant

pub returns-clause-none : goal.returns-clause-none
returns-clause-none c =
    let on = rw c.if-branch.false at c.in_ok-more.ensures.on in
    ap (λ (r : Remaining). r.statements) on.1 ∙ on.0

pub returns-clause-ending : goal.returns-clause-ending
returns-clause-ending c =
    let on = rw c.if-branch.false at c.in_ok-more.ensures.on in
    ap (λ (r : Remaining). r.ending) on.1 ∙ c.loop.invariant
