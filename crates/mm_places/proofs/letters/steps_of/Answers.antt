-- Each code adds its step.
use Rattle.std.proofs.Common.{◌≤◌, List, [], length, sym, subst, refl, append-nil}
use Rattle.std.proofs.lemmas.List.{drop_all}
use Rattle.mm_code.specs.declared.code.Code.{Code}
use Rattle.mm_places.specs.Mirror.CodeLetters.{AreStepsFrom}
use Rattle.mm_places.proofs.ProofPlaces.StepLetters.{one_code_more}
use Rattle.mm_places.proofs.letters.steps_of.Goals as goal

pub loop-index-preserved : goal.loop-index-preserved
loop-index-preserved c =
    one_code_more c.args.codes.now c.loop-index.index c.loop-index.steps.items
    c.push_step.new.steps.items c.loop-index-test.true c.in_ok-push_step.ensures
    c.loop-index.invariant

pub returns : goal.returns
returns c =
    let said : List Code = c.args.codes.now in
    let past : length said ≤ c.loop-index.index = c.loop-index-test.false in
    subst (AreStepsFrom 0 said) (append-nil c.loop-index.steps.items)
    (c.loop-index.invariant []
    (subst (λ (cs : List Code). AreStepsFrom c.loop-index.index cs [])
    (sym (drop_all c.loop-index.index said past)) refl))
