-- The reading is one, so what is left at first is the statements of the files.
use Rattle.std.proofs.Common.{List, map, None, sym, subst}
use Rattle.mm_base.specs.Statement.{PlainStatement, plain_statement}
use Rattle.mm_text.specs.Files.{plain_file}
use Rattle.mm_rules.specs.Shown.{Stands}
use Rattle.mm_verdict.proofs.Verdicts.AcceptedStatements.{same_reading}
use Rattle.mm_verdict.proofs.reread.reread.Goals as goal

pub seek-found-requires-clause-faultless : goal.seek-found-requires-clause-faultless
seek-found-requires-clause-faultless c =
    (same_reading (map plain_file c.args.files.now) c.in_ok-statements.statements.statements c.requires.stands.0 c.in_ok-statements.statements.ending None
    c.in_ok-statements.ensures.reads c.requires.stands.2).1

pub seek-found-requires-clause-stands : goal.seek-found-requires-clause-stands
seek-found-requires-clause-stands c =
    let same = same_reading (map plain_file c.args.files.now) c.in_ok-statements.statements.statements c.requires.stands.0 c.in_ok-statements.statements.ending None
    c.in_ok-statements.ensures.reads c.requires.stands.2 in
    (c.requires.stands.1, subst (λ (ss : List PlainStatement). Stands ss c.args.label.now c.requires.stands.1) (sym same.0) c.requires.stands.3)

pub returns-in-Ok-clause-found : goal.returns-in-Ok-clause-found
returns-in-Ok-clause-found c = λ statements reads.
    let same = same_reading (map plain_file c.args.files.now) c.in_ok-statements.statements.statements statements c.in_ok-statements.statements.ending None
    c.in_ok-statements.ensures.reads reads in
    subst (λ (ss : List PlainStatement). Stands ss c.args.label.now (plain_statement c.seek-found.new.into)) same.0 c.in-Ok.ensures.found
