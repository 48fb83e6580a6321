-- A new reader has all statements left.
use Rattle.std.proofs.Common.{map, sym, subst}
use Rattle.mm_text.specs.Files.{plain_file}
use Rattle.mm_rules.specs.declared.fault.CheckFault.{CheckFault}
use Rattle.mm_find.specs.Found.{IsUnlisted}
use Rattle.mm_find.specs.Plain.{plain_query}
use Rattle.mm_find.specs.Mirror.Types.{type_in}
use Rattle.mm_find.proofs.Listings.{lists_first, stop_unlisted}
use Rattle.mm_find.proofs.found.list.Goals as goal

pub list_rest-requires : goal.list_rest-requires
list_rest-requires c =
    rw c.new-out.ensures.items
    (lists_first (plain_query c.args.query.now) (type_in c.args.types.now)
    (map plain_file c.args.files.now)
    c.in_ok-progress.progress c.args.statements.now c.requires.unread c.requires.readable
    c.in_ok-progress.ensures.taken c.in_ok-progress.ensures.lines)

pub returns-clause-fault : goal.returns-clause-fault
returns-clause-fault c =
    subst (λ (why : CheckFault). IsUnlisted (map plain_file c.args.files.now) why)
    (sym c.from.ensures)
    (stop_unlisted (map plain_file c.args.files.now) c.in-Err.stop c.in-Err.ensures.stopped)
