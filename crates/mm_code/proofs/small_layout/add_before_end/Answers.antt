-- `$.` fits behind a space, or else begins a line.
use Rattle.std.proofs.Common.{arith}
use Rattle.mm_code.proofs.SmallLines.{end_fits, end_breaks}
use Rattle.mm_code.proofs.small_layout.add_before_end.Goals as goal

pub returns-in_ok-push : goal.returns-in_ok-push
returns-in_ok-push c =
    rw (end_fits c.args.indent c.args.room (omega arith)) c.in_ok-push.ensures.items

pub returns-in_ok-begin_line : goal.returns-in_ok-begin_line
returns-in_ok-begin_line c =
    rw (end_breaks c.args.indent c.args.room (omega arith)) c.in_ok-begin_line.ensures.text
