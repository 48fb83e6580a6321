-- The limit is left at first, and the statements of the files count it down.
use Rattle.mm_groups.specs.Shared.{times}
use Rattle.mm_groups.proofs.LabelTimes.{left_in_end}
use Rattle.mm_groups.proofs.countdown.counted_down.Goals as goal

pub returns : goal.returns
returns c = λ statements ending reads label among.
    left_in_end c.args.limit (times statements label.now) _ _ _ among (c.in_ok-begin.ensures label)
    (c.in_ok-pass_all.ensures statements ending reads label)
