use Rattle.std.proofs.Common.{List, ℕ, subst, sym, ◌∙◌}
use Rattle.std.proofs.lemmas.Bool.{false≢true}
use Rattle.std.proofs.lemmas.List.{take_all}
use Rattle.mm_frame.specs.Frame.{AreThose}
use Rattle.mm_listing.specs.Mirror.StepUses.{sources_of, IsAskedOf}
use Rattle.mm_listing.proofs.Machines.StepOperands.{operands_more, operands_skipped}
use Rattle.mm_listing.proofs.uses.operands.Goals.{then-is_asked+in_ok-push, else-is_asked}
use Rattle.mm_listing.proofs.uses.operands.Goals as goal

pub loop-index-init : goal.loop-index-init
loop-index-init c = c.new-used.ensures.items

pub loop-index-preserved : goal.loop-index-preserved
loop-index-preserved c =
    let within = c.loop-index-test.true in
    elim c.if-is_asked.branch [
      | then-is_asked+in_ok-push w ↦ rw (w.used-is, w.in_ok-push.ensures.items)
          (operands_more c.args.essential c.args.call.now c.args.sources.now c.args.origins.now
          c.loop-index.index c.loop-index.used.items within c.loop-index.invariant
          (c.is_asked.ensures.0 w.if-is_asked.true))
      | else-is_asked w ↦ rw w.used-is
          (operands_skipped c.args.essential c.args.call.now c.args.sources.now c.args.origins.now
          c.loop-index.index c.loop-index.used.items within c.loop-index.invariant
          (λ is. false≢true (sym w.if-is_asked.false ∙ c.is_asked.ensures.1 is)))
    ]

pub returns : goal.returns
returns c =
    subst (λ (l : List ℕ). AreThose (λ i operand. IsAskedOf c.args.essential c.args.call.now i) 0
    (sources_of c.args.sources.now l) c.loop-index.used.items)
    (take_all c.loop-index.index c.args.origins.now c.loop-index-test.false) c.loop-index.invariant
