-- What changed, and its text.
use Rattle.std.proofs.Common.{ap, subst}
use Rattle.mm_rules.specs.Conclusion.{Conclusion}
use Rattle.mm_verdict.proofs.Verdicts.AcceptedStatements.{KeptWell}
use Rattle.mm_diff.specs.Mirror.Changes.{plain_changes}
use Rattle.mm_diff.proofs.DiffReplies.{reply_told}
use Rattle.mm_diff.proofs.reply.changes_reply.Goals as goal

pub changes_text-requires : goal.changes_text-requires
changes_text-requires c =
    rw (
      ap (λ (v : Conclusion). v.sentences) c.old.view_is,
      ap (λ (v : Conclusion). v.sentences) c.new.view_is,
    )
    c.in_ok-changes.ensures.within

pub returns : goal.returns
returns c =
    let here = ap (λ (v : Conclusion). v.sentences) c.old.view_is in
    let there = ap (λ (v : Conclusion). v.sentences) c.new.view_is in
    reply_told c.args.old.now c.args.new.now (plain_changes c.in_ok-changes.changes)
    c.in_ok-text.text.items _
    (subst KeptWell c.old.view_is c.old.invariant) (subst KeptWell c.new.view_is c.new.invariant)
    c.in_ok-changes.ensures.changes (rw (here, there) at c.in_ok-text.ensures)
    c.changes_status.ensures
