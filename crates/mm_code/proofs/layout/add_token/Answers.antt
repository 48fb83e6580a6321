-- A token on the open line, and one on the next, are each a step of `rest_of`.
use Rattle.std.proofs.Common.{append_assoc, arith}
use Rattle.mm_code.proofs.LaidOutLines.{rest_fits, begun_adds}
use Rattle.mm_code.proofs.layout.add_token.Goals as goal

pub returns-then-token-room : goal.returns-then-token-room
returns-then-token-room c more =
    rw (c.in_ok-extend_from_slice.ensures.items, c.in_ok-push.ensures.items)
    (rw (rest_fits c.args.room c.args.token.now more (omega arith)) (simp append_assoc))

pub returns : goal.returns
returns c =
    begun_adds c.begin_line.result c.args.text.now.items c.push-2.new.self.items c.begin_line.new.text.items c.args.token.now c.args.room c.in_ok-push-2.ensures.items c.begin_line.ensures.text c.begin_line.ensures.room (omega arith)
