-- For that which the table has.
use Rattle.std.proofs.Common.{ℕ, List, Option, refl, subst, sym}
use Rattle.std.proofs.lemmas.Result.{IfOk-weaker}
use Rattle.mm_frame.specs.declared.number.LabelId.{LabelId}
use Rattle.mm_rules.specs.Rests.{AreInOrder}
use Rattle.mm_step.specs.Plain.{ids_in}
use Rattle.mm_diff.specs.Mirror.Depends.{IsFurtherIn}
use Rattle.mm_diff.specs.Mirror.Twins.{IsTwinAt}
use Rattle.mm_diff.proofs.StayingTheorems.{one_twin}
use Rattle.mm_diff.proofs.depends.differing_at.Goals as goal

pub unreachable-requires : goal.unreachable-requires
unreachable-requires c =
    let (former, twin) = c.requires.twin in
    c.in-None.ensures.none refl former
    (subst (λ (ts : List (Option LabelId)). IsTwinAt ts c.args.id.0 former)
    (sym c.deref.ensures.value) twin)

pub returns : goal.returns
returns c =
    let own : IsTwinAt c.args.side.now.twins.items c.args.id.0 c.in-Some.former.0 =
    rw c.deref.ensures.value at c.in-Some.ensures.some in
    IfOk-weaker c.differing_of.result _ _
    (λ d told former twin.
    subst (λ (n : ℕ). AreInOrder (IsFurtherIn c.args.new.now c.args.old.now c.args.id.0 n)
    (ids_in d.further.items)
    × AreInOrder (IsFurtherIn c.args.old.now c.args.new.now n c.args.id.0) (ids_in d.less.items))
    (one_twin c.args.side.now.twins.items c.args.id.0 c.in-Some.former.0 former own twin) told)
    c.differing_of.ensures
