-- The files are those that were judged, which have no fault.
use Rattle.std.proofs.Common.{◌≡◌, List, map, ap, subst}
use Rattle.mm_text.specs.Files.{PlainFile, plain_file}
use Rattle.mm_text.specs.Remaining.{IsUnread}
use Rattle.mm_rules.specs.Conclusion.{Conclusion}
use Rattle.mm_verdict.proofs.Questions.TheoremsAgain.{labels_few, unread_faultless}
use Rattle.mm_verdict.proofs.Verdicts.AcceptedStatements.{KeptWell}
use Rattle.mm_verdict.proofs.checked.Checked.reader.Goals as goal

pub returns-clause-faultless : goal.returns-clause-faultless
returns-clause-faultless c =
    let now : Conclusion = c.args.self.now in
    let well = subst KeptWell c.self.view_is c.self.invariant in
    let files : map plain_file c.self.inside.files.now ≡ now.files =
    ap (λ (v : Conclusion). v.files) c.self.view_is in
    unread_faultless now c.in_ok-statements.statements well
    (subst (λ (fs : List PlainFile). IsUnread fs c.in_ok-statements.statements) files
    c.in_ok-statements.ensures)

pub returns-clause-few : goal.returns-clause-few
returns-clause-few c =
    let now : Conclusion = c.args.self.now in
    let well = subst KeptWell c.self.view_is c.self.invariant in
    let files : map plain_file c.self.inside.files.now ≡ now.files =
    ap (λ (v : Conclusion). v.files) c.self.view_is in
    labels_few now c.in_ok-statements.statements well
    (subst (λ (fs : List PlainFile). IsUnread fs c.in_ok-statements.statements) files
    c.in_ok-statements.ensures)
