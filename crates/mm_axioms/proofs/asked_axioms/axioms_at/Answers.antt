-- What stands in the row is what the theorem rests on.
use Rattle.std.proofs.lemmas.Result.{IfOk-weaker}
use Rattle.mm_step.specs.Plain.{ids_in}
use Rattle.mm_rules.specs.Mirror.Marks.{IsAxiomNumber}
use Rattle.mm_axioms.proofs.Resting.AllReports.{rests_in}
use Rattle.mm_axioms.proofs.asked_axioms.axioms_at.Goals as goal

pub returns : goal.returns
returns c =
    IfOk-weaker c.axioms_in.result _ _
    (λ ids found. rests_in (IsAxiomNumber c.args.checked.now.sentences) c.args.checked.now.uses
    (ids_in c.args.tables.now.axioms.items) c.args.tables.now.axiom_rows c.args.theorem.0
    (ids_in ids.items) c.requires.axioms.each c.requires.axiom_rows found)
    c.axioms_in.ensures
