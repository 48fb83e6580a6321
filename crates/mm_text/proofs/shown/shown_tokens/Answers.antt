-- All tokens are told, or a fault ends them.
use Rattle.std.proofs.Common.{map}
use Rattle.mm_base.specs.Token.{plain_token}
use Rattle.mm_text.specs.Mirror.Position.{shown_at}
use Rattle.mm_text.specs.Shown.{shown_in}
use Rattle.mm_text.proofs.ShownTexts.{shown_room, told_broken, told_whole}
use Rattle.mm_text.proofs.shown.shown_tokens.Goals as goal

pub returns-in-Ok-None-clause-tokens : goal.returns-in-Ok-None-clause-tokens
returns-in-Ok-None-clause-tokens c =
    let none = rw c.in-Ok-None.field-0-is at c.in-Ok-None.ensures.takes in
    (told_whole (shown_in c.args.text.now) (map plain_token c.tokens.tokens.items)
    (shown_at c.tokens.position) c.tokens.invariant.left none).0

pub returns-in-Ok-None-clause-fault : goal.returns-in-Ok-None-clause-fault
returns-in-Ok-None-clause-fault c =
    let none = rw c.in-Ok-None.field-0-is at c.in-Ok-None.ensures.takes in
    (told_whole (shown_in c.args.text.now) (map plain_token c.tokens.tokens.items)
    (shown_at c.tokens.position) c.tokens.invariant.left none).1

pub returns-in-Ok-None-clause-room : goal.returns-in-Ok-None-clause-room
returns-in-Ok-None-clause-room c =
    shown_room c.args.text.now c.tokens.tokens.items (returns-in-Ok-None-clause-tokens c)

pub returns-in-Err-clause-tokens : goal.returns-in-Err-clause-tokens
returns-in-Err-clause-tokens c =
    (told_broken (shown_in c.args.text.now) (map plain_token c.tokens.tokens.items)
    (shown_at c.tokens.position) c.in-Err.wrong.rule (plain_token c.in-Err.wrong.token)
    c.tokens.invariant.left c.in-Err.ensures.takes.0).0

pub returns-in-Err-clause-fault : goal.returns-in-Err-clause-fault
returns-in-Err-clause-fault c =
    (told_broken (shown_in c.args.text.now) (map plain_token c.tokens.tokens.items)
    (shown_at c.tokens.position) c.in-Err.wrong.rule (plain_token c.in-Err.wrong.token)
    c.tokens.invariant.left c.in-Err.ensures.takes.0).1

pub returns-in-Err-clause-room : goal.returns-in-Err-clause-room
returns-in-Err-clause-room c =
    shown_room c.args.text.now c.tokens.tokens.items (returns-in-Err-clause-tokens c)
