-- The next statement is taken, since it breaks no rule of meaning.
use Rattle.std.proofs.Common.{map, arith}
use Rattle.mm_text.specs.Files.{plain_file}
use Rattle.mm_base.specs.Statement.{plain_statement}
use Rattle.mm_verdict.specs.Mirror.Judged.{IsRead}
use Rattle.mm_explain.proofs.SemanticErrors.{read_more}
use Rattle.mm_verdict.proofs.Verdicts.AcceptedStatements.{closes, has_room, few}
use Rattle.mm_explain.proofs.semantic_error.take_next.Goals as goal

-- what holds where the statement is to be taken
way : (c : goal.After-take-arg-1) → IsRead (map plain_file c.args.files.now)
    c.make_room.new.progress c.args.statements.now
way c = rw c.make_room.ensures c.requires.read

pub take-requires-clause-closes : goal.take-requires-clause-closes
take-requires-clause-closes c = closes _ _ _ _ _ (way c) c.in_ok-read_next.ensures.taken

pub take-requires-clause-room : goal.take-requires-clause-room
take-requires-clause-room c = has_room _ _ _ _ _ (way c) c.in_ok-read_next.ensures.taken

pub take-requires-clause-count : goal.take-requires-clause-count
take-requires-clause-count c = omega (arith, few _ _ _ (way c), (way c).taken.count)

pub returns-in-Ok-clause-read : goal.returns-in-Ok-clause-read
returns-in-Ok-clause-read c =
    read_more (map plain_file c.args.files.now) c.make_room.new.progress c.take.new.progress
    c.args.statements.now c.read_next.new.statements (plain_statement c.read_next.new.into) _
    (rw c.make_room.ensures c.requires.read) c.in_ok-read_next.ensures.taken c.in-Ok.ensures.taken
