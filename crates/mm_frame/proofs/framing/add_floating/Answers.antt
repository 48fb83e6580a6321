use Rattle.std.proofs.Common.{sym, ◌∙◌, ap, append-nil, Some, None}
use Rattle.mm_frame.proofs.framing.add_floating.Goals as goal
use Rattle.mm_frame.proofs.framing.add_floating.Goals.{in-Some+in_ok-push-in-Some, in-None}
use Rattle.mm_frame.proofs.Frames.MandatoryHypotheses.{floatings_more}

pub loop-symbol-preserved : goal.loop-symbol-preserved
loop-symbol-preserved c =
    let infos = c.args.tables.now.infos.items in
    let xs = c.args.expression.now in
    let i = c.loop-symbol.symbol-index in
    elim c.match-floating.branch [
      | in-Some+in_ok-push-in-Some w ↦
          ap (λ v. v.items) w.indices-is ∙ w.in_ok-push-in-Some.ensures.items
          ∙ floatings_more infos xs i _ (Some w.in-Some.index) c.args.indices.now.items _
          c.loop-symbol-test.true (sym c.floating.ensures ∙ w.in-Some.is) c.loop-symbol.invariant
      | in-None w ↦
          ap (λ v. v.items) w.indices-is ∙ sym (append-nil c.loop-symbol.indices.items)
          ∙ floatings_more infos xs i _ None c.args.indices.now.items _
          c.loop-symbol-test.true (sym c.floating.ensures ∙ w.in-None.is) c.loop-symbol.invariant
    ]
