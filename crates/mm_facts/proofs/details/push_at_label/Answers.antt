-- The label is told, and the facts behind it.
use Rattle.std.proofs.Common.{◌∷◌, refl}
use Rattle.std.proofs.lemmas.Result.{on_ok_weaker}
use Rattle.mm_facts.specs.Explained.{step_label}
use Rattle.mm_facts.proofs.HaltDetails.{step_left, label_told, same_first}
use Rattle.mm_facts.proofs.details.push_at_label.Goals as goal

pub returns : goal.returns
returns c =
    on_ok_weaker c.push_step_details.result
    (λ told index s prefix moves number h.
    let step = step_left c.args.book.now.statements h.there.left c.args.stop.now.halt.at c.args.step.0 c.requires.place h.place in
    let facts = told index s prefix moves number h in
    let label = facts.1.0 in (
      step_label label ∷ facts.0,
      (label, facts.1.1, facts.1.2, (facts.0, facts.1.3, refl)),
      label_told c.args.out.now.items c.push_step.new.out.items c.push_step_details.new.out.items c.label.result.now label facts.0
          (same_first c.args.book.now.statements h.there.left c.args.step.0.0 c.label.result.now step label facts.1.1 facts.1.2 c.label.ensures)
          c.in_ok-push_step.ensures facts.2,
    ))
    c.push_step_details.ensures
