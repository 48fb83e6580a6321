-- What is left of the limit tells how often a label is named.
use Rattle.std.proofs.Common.{sym, ◌∙◌}
use Rattle.std.proofs.lemmas.Bool.{eqb-true}
use Rattle.mm_groups.specs.Shared.{times}
use Rattle.mm_groups.proofs.RarestLabels.{rarest_of_none}
use Rattle.mm_groups.proofs.rarest.rarest.Goals as goal

pub returns-then-is_empty : goal.returns-then-is_empty
returns-then-is_empty c = λ statements ending reads.
    rarest_of_none c.args.limit (times statements) c.args.labels.now
    (eqb-true _ 0 (sym c.is_empty.ensures ∙ c.if-is_empty.true))

pub returns : goal.returns
returns c = λ statements ending reads.
    c.most_left.ensures c.args.limit (times statements)
    (λ label among. c.in_ok-left.ensures statements ending reads label among)
