-- A new reader has all statements left.
use Rattle.std.proofs.Common.{map, sym, subst}
use Rattle.mm_text.specs.Files.{plain_file}
use Rattle.mm_rules.specs.declared.fault.CheckFault.{CheckFault}
use Rattle.mm_find.specs.Found.{IsUnlisted}
use Rattle.mm_find.proofs.Listings.{stop_unlisted, types_first}
use Rattle.mm_find.proofs.typing.noted_types.Goals as goal

pub note_rest-requires : goal.note_rest-requires
note_rest-requires c =
    types_first c.new-types.result (map plain_file c.args.files.now)
    c.in_ok-progress.progress c.args.statements.now c.requires.unread c.requires.readable
    c.in_ok-progress.ensures.taken c.in_ok-progress.ensures.lines c.new-types.ensures

pub returns-clause-fault : goal.returns-clause-fault
returns-clause-fault c =
    subst (λ (why : CheckFault). IsUnlisted (map plain_file c.args.files.now) why)
    (sym c.from.ensures)
    (stop_unlisted (map plain_file c.args.files.now) c.in-Err.stop c.in-Err.ensures.stopped)
