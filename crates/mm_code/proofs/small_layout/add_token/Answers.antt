-- A token on the open line, and one on the next, are each a step of `small_rest`.
use Rattle.std.proofs.Common.{◌≡◌, length, append_assoc, arith}
use Rattle.mm_code.specs.Mirror.SmallLines.{small_room}
use Rattle.mm_code.proofs.SmallLines.{token_added, token_begins}
use Rattle.mm_code.proofs.small_layout.add_token.Goals as goal

pub returns-then-token-room : goal.returns-then-token-room
returns-then-token-room c more =
    rw (c.in_ok-extend_from_slice.ensures.items, c.in_ok-push.ensures.items)
    (rw (token_added c.args.indent c.args.room c.args.token.now more (omega arith))
    (simp append_assoc))

pub returns : goal.returns
returns c more =
    let left : c.saturating_sub.result ≡ small_room c.args.indent (length c.args.token.now) =
    omega (arith, c.saturating_sub.ensures, c.in_ok-whole.ensures.room) in
    token_begins c.args.indent c.args.room c.saturating_sub.result c.args.text.now.items
    c.begin_line.new.text.items c.extend_from_slice-2.new.self.items c.args.token.now more
    (omega arith) c.in_ok-whole.ensures.text c.in_ok-extend_from_slice-2.ensures.items left
