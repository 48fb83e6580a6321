use Rattle.std.proofs.Common.{sym, arith, ◌∙◌}
use Rattle.std.proofs.lemmas.Bool.{false≢true}
use Rattle.mm_step.proofs.ByNumbers.CalledAssertions.{IsCalledAt, first_none, first_more}
use Rattle.mm_step.proofs.ByNumbers.CalledAssertions.{first_skipped, called_there, there_called}
use Rattle.mm_step.proofs.ByNumbers.CalledAssertions.{called_all}
use Rattle.mm_step.proofs.used.fill_called.Goals as goal
use Rattle.mm_step.proofs.used.fill_called.Goals.{then-is_called+in_ok-push, else-is_called}

pub loop-index-init : goal.loop-index-init
loop-index-init c = rw c.clear.ensures.items (first_none (IsCalledAt c.args.calls.now c.args.marks.now) c.args.entries.now)

pub loop-index-preserved : goal.loop-index-preserved
loop-index-preserved c = elim c.if-is_called.branch [
  | then-is_called+in_ok-push w ↦ rw (w.named-is, w.in_ok-push.ensures.items)
      (first_more (IsCalledAt c.args.calls.now c.args.marks.now) c.args.entries.now c.loop-index.index _ c.loop-index.named.ids.items c.loop-index-test.true
      (called_there c.args.calls.now c.args.marks.now c.loop-index.index c.index-calls-index.result (omega arith)
      (rw c.index-calls-index.is at (c.is_called.ensures.0 w.if-is_called.true))) c.loop-index.invariant)
  | else-is_called w ↦ rw w.named-is
      (first_skipped (IsCalledAt c.args.calls.now c.args.marks.now) c.args.entries.now c.loop-index.index c.loop-index.named.ids.items
      (λ h. false≢true (sym w.if-is_called.false ∙ c.is_called.ensures.1 (rw c.index-calls-index.is
      (there_called c.args.calls.now c.args.marks.now c.loop-index.index c.index-calls-index.result (omega arith) h)))) c.loop-index.invariant)
]

pub returns : goal.returns
returns c statements index moves each made marked =
    called_all statements index c.args.entries.now c.args.calls.now c.args.marks.now c.loop-index.index _ moves c.loop-index-test.false c.loop-index.invariant each made marked
