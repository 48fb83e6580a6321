-- The labels of the statement are named once more.
use Rattle.std.proofs.Common.{ap, ◌∙◌}
use Rattle.std.proofs.lemmas.Result.{on_ok_weaker}
use Rattle.mm_base.specs.Statement.{plain_statement}
use Rattle.mm_groups.specs.Shared.{times_in}
use Rattle.indexmap.specs.IndexMap.{get}
use Rattle.mm_code.specs.Layout.{texts}
use Rattle.mm_groups.specs.Mirror.Sets.{left_after, same_bytes}
use Rattle.mm_groups.proofs.LabelTimes.{passed_after}
use Rattle.mm_groups.proofs.countdown.CountdownPassing.pass.Goals as goal

pub returns : goal.returns
returns c =
    on_ok_weaker c.count_down_all.result
    (λ counted first passed has label.
    passed_after passed (plain_statement c.args.statement.now) label.now _ _ _ (has label)
    (counted label
    ∙ ap (λ ts. left_after (times_in (texts ts) label.now)
    (get same_bytes c.args.self.now.left label)) c.deref.ensures.value
    ∙ ap (λ ls. left_after (times_in ls label.now)
    (get same_bytes c.args.self.now.left label)) c.in_ok-labels.ensures))
    c.count_down_all.ensures
