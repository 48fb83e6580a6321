-- A new reader has all statements left.
use Rattle.std.proofs.Common.{map, sym, subst}
use Rattle.mm_text.specs.Files.{plain_file}
use Rattle.mm_rules.specs.declared.fault.CheckFault.{CheckFault}
use Rattle.mm_axioms.specs.Mirror.Accepted.{IsUnkept}
use Rattle.mm_axioms.proofs.AcceptedProofs.{keeps_first, stop_unkept}
use Rattle.mm_axioms.proofs.accepted_uses.uses_in.Goals as goal

pub keep_rest-requires : goal.keep_rest-requires
keep_rest-requires c =
    rw c.new-kept.ensures
    (keeps_first (map plain_file c.args.files.now) c.in_ok-progress.progress
    c.args.statements.now c.requires.unread c.requires.readable c.in_ok-progress.ensures.taken
    c.in_ok-progress.ensures.lines)

pub returns-clause-fault : goal.returns-clause-fault
returns-clause-fault c =
    subst (λ (why : CheckFault). IsUnkept (map plain_file c.args.files.now) why)
    (sym c.from.ensures)
    (stop_unkept (map plain_file c.args.files.now) c.in-Err.stop c.in-Err.ensures.stopped)
