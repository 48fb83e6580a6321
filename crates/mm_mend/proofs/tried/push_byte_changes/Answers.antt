-- At one place more.
use Rattle.std.proofs.Common.{◌∙◌, ◌++◌, ◌-◌, ap, append_assoc, sym, List}
use Rattle.mm_mend.specs.Mend.{byte_changes, changes_at}
use Rattle.mm_mend.specs.declared.change.Change.{Change}
use Rattle.mm_mend.proofs.TriedChanges.{byte_changes_more}
use Rattle.mm_mend.proofs.tried.push_byte_changes.Goals as goal

pub loop-back-preserved : goal.loop-back-preserved
loop-back-preserved c =
    let old : List Change = c.args.changes.now.items in
    let here : List Change = changes_at c.args.text.now (c.args.reach - c.loop-back.back) in
    c.in_ok-push_changes_at.ensures
    ∙ ap (λ (l : List Change). l ++ here) c.loop-back.invariant
    ∙ append_assoc old (byte_changes c.loop-back.back c.args.reach c.args.text.now) here
    ∙ ap (λ (l : List Change). old ++ l)
    (sym (byte_changes_more c.loop-back.back c.args.reach c.args.text.now))
