-- The reading is one, so the statements that are read are those of the files.
use Rattle.std.proofs.Common.{◌≡◌, List, map, Option, None, sym, ap, subst, ◌∙◌}
use Rattle.std.proofs.lemmas.List.{length-map}
use Rattle.mm_text.specs.Files.{PlainFile, plain_file}
use Rattle.mm_text.specs.Reading.{PlainFault, Reads}
use Rattle.mm_base.specs.Statement.{PlainStatement}
use Rattle.mm_rules.specs.Conclusion.{Conclusion}
use Rattle.mm_minimize.specs.declared.remarks.Passed.{Passed}
use Rattle.mm_minimize.specs.Mirror.Shortening.{ArePassed}
use Rattle.mm_minimize.specs.Remarks.{AreRemarks, AreRemarksOf}
use Rattle.mm_minimize.proofs.ShorterTheorems.StatementRemarks.{passed_none}
use Rattle.mm_verdict.proofs.Verdicts.AcceptedStatements.{same_reading}
use Rattle.mm_minimize.proofs.remarks.remarks_of.Goals as goal

pub read_remarks-read-requires-clause-faultless : goal.read_remarks-read-requires-clause-faultless
read_remarks-read-requires-clause-faultless c =
    let origin = c.checked.invariant.origin in
    (same_reading (map plain_file c.checked.inside.files.now)
    c.in_ok-statements.statements.statements origin.statements
    c.in_ok-statements.statements.ending None c.in_ok-statements.ensures.reads
    origin.accepted.reads).1

pub read_remarks-read-requires-clause-reads : goal.read_remarks-read-requires-clause-reads
read_remarks-read-requires-clause-reads c =
    let origin = c.checked.invariant.origin in
    let faultless = (same_reading (map plain_file c.checked.inside.files.now)
    c.in_ok-statements.statements.statements origin.statements
    c.in_ok-statements.statements.ending None c.in_ok-statements.ensures.reads
    origin.accepted.reads).1 in
    subst (λ (e : Option PlainFault). Reads (map plain_file c.checked.inside.files.now)
    c.in_ok-statements.statements.statements e) faultless c.in_ok-statements.ensures.reads

pub read_remarks-read-requires-clause-passed : goal.read_remarks-read-requires-clause-passed
read_remarks-read-requires-clause-passed c =
    let files = c.checked.inside.files.now in
    subst (λ (ps : List Passed). ArePassed (map plain_file files) ps)
    (sym c.deref_mut.ensures.value)
    (passed_none (map plain_file files) c.in_ok-passed.passed.items
    (c.in_ok-passed.ensures.count ∙ sym (length-map files plain_file)) c.in_ok-passed.ensures.begin)

pub returns-in-Ok : goal.returns-in-Ok
returns-in-Ok c =
    let same : map plain_file c.checked.inside.files.now ≡ c.args.checked.now.files =
    ap (λ (v : Conclusion). v.files) c.checked.view_is in
    subst (λ (fs : List PlainFile). AreRemarks fs c.read_remarks-read.new.remarks.items) same
    (λ statements reads.
    let one = same_reading (map plain_file c.checked.inside.files.now)
    c.in_ok-statements.statements.statements statements
    c.in_ok-statements.statements.ending None c.in_ok-statements.ensures.reads reads in
    subst (λ (ss : List PlainStatement).
    AreRemarksOf (map plain_file c.checked.inside.files.now) ss
    c.read_remarks-read.new.remarks.items) one.0 c.in-Ok.ensures)
