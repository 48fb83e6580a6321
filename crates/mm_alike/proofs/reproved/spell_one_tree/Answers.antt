-- What is told of the steps is told of the proofs.
use Rattle.std.proofs.Common.{ap, subst}
use Rattle.std.proofs.lemmas.Result.{IfOk-weaker}
use Rattle.mm_rules.specs.Conclusion.{Conclusion}
use Rattle.mm_verdict.proofs.Verdicts.AcceptedStatements.{KeptWell}
use Rattle.mm_alike.proofs.CheckedTheorems.{proof_told}
use Rattle.mm_alike.proofs.reproved.spell_one_tree.Goals as goal

pub make_one_tree-requires-clause-one : goal.make_one_tree-requires-clause-one
make_one_tree-requires-clause-one c =
    rw (ap (λ (v : Conclusion). v.sentences) c.checked.view_is) c.in_ok-theorem.ensures.whole

pub make_one_tree-requires-clause-other : goal.make_one_tree-requires-clause-other
make_one_tree-requires-clause-other c =
    rw (ap (λ (v : Conclusion). v.sentences) c.other_checked.view_is)
    c.in_ok-other_theorem.ensures.whole

pub returns : goal.returns
returns c =
    let here = ap (λ (v : Conclusion). v.sentences) c.checked.view_is in
    let there = ap (λ (v : Conclusion). v.sentences) c.other_checked.view_is in
    IfOk-weaker c.make_one_tree.result _ _
    (λ same tells statements others reads reads_too.
    proof_told c.args.checked.now c.args.other_checked.now c.args.one.0 c.args.other.0
    (subst KeptWell c.checked.view_is c.checked.invariant)
    (subst KeptWell c.other_checked.view_is c.other_checked.invariant)
    c.requires.complete.complete c.requires.other_complete.complete c.requires.theorem
    c.requires.other_theorem statements others reads reads_too
    c.in_ok-theorem.theorem.steps.moves c.in_ok-other_theorem.other_theorem.steps.moves same
    c.in_ok-theorem.ensures.told c.in_ok-other_theorem.ensures.told
    (rw (here, there, c.in_ok-theorem.ensures.id, c.in_ok-other_theorem.ensures.id) at tells))
    c.make_one_tree.ensures
