use Rattle.std.proofs.lemmas.List.{take_all}
use Rattle.mm_forms.proofs.PackedProofs.ChosenSteps.{written_next, chosen_shared, written_few}
use Rattle.mm_forms.proofs.chosen.choose_steps.Goals as goal

pub loop-one-preserved : goal.loop-one-preserved
loop-one-preserved c =
    written_next _ c.args.steps.now c.loop-one.one-index _ c.loop-one.chosen.items _
    c.loop-one-test.true c.loop-one.invariant c.in_ok-put_chosen.ensures

pub returns-clause-chosen : goal.returns-clause-chosen
returns-clause-chosen c st trees shared =
    chosen_shared st _ trees c.args.steps.now c.loop-one.chosen.items
    (rw (take_all _ c.args.steps.now c.loop-one-test.false) at c.loop-one.invariant) shared

pub returns-clause-few : goal.returns-clause-few
returns-clause-few c =
    written_few _ c.args.steps.now c.loop-one.chosen.items
    (rw (take_all _ c.args.steps.now c.loop-one-test.false) at c.loop-one.invariant)
