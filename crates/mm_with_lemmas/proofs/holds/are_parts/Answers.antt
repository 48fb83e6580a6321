-- By both readings.
use Rattle.std.proofs.Common.{◌≡◌, List, map, refl, sym, ap, subst}
use Rattle.std.proofs.lemmas.Result.{IfOk-weaker}
use Rattle.mm_base.specs.Statement.{PlainStatement}
use Rattle.mm_frame.specs.Sentence.{Sentence}
use Rattle.mm_text.specs.Files.{PlainFile, plain_file}
use Rattle.mm_text.specs.Remaining.{IsUnread, Remaining}
use Rattle.mm_rules.specs.Conclusion.{Conclusion}
use Rattle.mm_verdict.proofs.Verdicts.AcceptedStatements.{KeptWell}
use Rattle.mm_with_lemmas.specs.Mirror.Editing.{put_statements}
use Rattle.mm_with_lemmas.specs.Mirror.Walking.{AreParts, IsToldReading}
use Rattle.mm_with_lemmas.proofs.WalkedReadings.{parts_read, told_reading}
use Rattle.mm_with_lemmas.proofs.holds.are_parts.Goals as goal

pub goes_over_all-requires-clause-begun : goal.goes_over_all-requires-clause-begun
goes_over_all-requires-clause-begun c = record {
  left = refl;
  labelled = c.new-walk.ensures.labelled;
  place = c.new-walk.ensures.place;
}

pub goes_over_all-requires-clause-told : goal.goes_over_all-requires-clause-told
goes_over_all-requires-clause-told c =
    let new : Conclusion = c.args.new.now in
    let well = subst KeptWell c.new.view_is c.new.invariant in
    let files : map plain_file c.new.inside.files.now ≡ new.files =
    ap (λ (v : Conclusion). v.files) c.new.view_is in
    subst (λ (ss : List Sentence). IsToldReading ss c.in_ok-statements.statements.statements)
    (sym (ap (λ (v : Conclusion). v.sentences) c.new.view_is))
    (told_reading new c.in_ok-statements.statements well
    (subst (λ (fs : List PlainFile). IsUnread fs c.in_ok-statements.statements) files
    c.in_ok-statements.ensures))

pub returns : goal.returns
returns c =
    let old : Conclusion = c.args.old.now in
    let new : Conclusion = c.args.new.now in
    let put : List PlainStatement = put_statements c.args.put.now in
    let files : map plain_file c.old.inside.files.now ≡ old.files =
    ap (λ (v : Conclusion). v.files) c.old.view_is in
    let new_files : map plain_file c.new.inside.files.now ≡ new.files =
    ap (λ (v : Conclusion). v.files) c.new.view_is in
    let unread = subst (λ (fs : List PlainFile). IsUnread fs c.in_ok-left.left) files
    c.in_ok-left.ensures in
    let unread_too = subst (λ (fs : List PlainFile). IsUnread fs c.in_ok-statements.statements)
    new_files c.in_ok-statements.ensures in
    IfOk-weaker c.goes_over_all.result _ _
    (λ over h t. parts_read old new c.in_ok-left.left c.in_ok-statements.statements put unread
    unread_too
    (subst (λ (fs : List PlainFile). AreParts fs new.files c.in_ok-left.left.statements
    c.in_ok-statements.statements.statements put) files
    (subst (λ (fs : List PlainFile). AreParts (map plain_file c.old.inside.files.now) fs
    c.in_ok-left.left.statements c.in_ok-statements.statements.statements put) new_files
    (subst (λ (r : Remaining). AreParts (map plain_file c.old.inside.files.now)
    (map plain_file c.new.inside.files.now) r.statements
    c.in_ok-statements.statements.statements put) c.new-walk.ensures.left (h t)))))
    c.goes_over_all.ensures
