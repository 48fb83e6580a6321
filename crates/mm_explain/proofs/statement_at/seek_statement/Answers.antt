-- A new reader has all statements left, and what stands at the label is the statement.
use Rattle.std.proofs.Common.{map, sym, subst}
use Rattle.mm_text.specs.Files.{plain_file}
use Rattle.mm_rules.specs.declared.fault.CheckFault.{CheckFault}
use Rattle.mm_explain.specs.declared.read_to.Unreached.TheVariants.{Check}
use Rattle.mm_explain.specs.Mirror.Reached.{IsUnreached}
use Rattle.mm_explain.proofs.LoneProofs.LoneTheorems.{seeks_first, stop_unreached}
use Rattle.mm_explain.proofs.statement_at.seek_statement.Goals as goal

pub take_to-requires : goal.take_to-requires
take_to-requires c =
    seeks_first (map plain_file c.args.files.now) c.args.label.now c.in_ok-progress.progress
    c.args.statements.now c.requires.unread c.requires.readable c.in_ok-progress.ensures.taken
    c.in_ok-progress.ensures.lines

pub returns-in-Err-clause-refused : goal.returns-in-Err-clause-refused
returns-in-Err-clause-refused c =
    subst
    (λ (why : CheckFault). IsUnreached (map plain_file c.args.files.now) c.args.label.now
    (Check why))
    (sym c.from.ensures)
    (stop_unreached (map plain_file c.args.files.now) c.args.label.now c.in-Err.stop
    c.in-Err.ensures.stopped)
