-- Nothing is to be told, or the sides are compared.
use Rattle.std.proofs.Common.{◌≡◌, List, [], ap, length, map, subst, sym}
use Rattle.std.proofs.lemmas.Bool.{eqb-true}
use Rattle.std.proofs.lemmas.List.{nil_from_length}
use Rattle.mm_frame.specs.declared.number.LabelId.{LabelId}
use Rattle.mm_step.specs.Plain.{ids_in}
use Rattle.mm_diff.specs.Mirror.Changes.{plain_dependence}
use Rattle.mm_diff.proofs.FurtherAxioms.{AreComparedTo, compared_all, compared_first}
use Rattle.mm_diff.proofs.depends.compare_sides.Goals as goal

pub returns-then-is_empty : goal.returns-then-is_empty
returns-then-is_empty c =
    let ids : List LabelId = c.args.ids.now in
    let none : ids ≡ [] =
    nil_from_length ids (eqb-true (length ids) 0 (sym c.if-is_empty.ensures)) in
    let so_far : AreComparedTo c.args.old.now c.args.new.now (ids_in ids)
    (map plain_dependence c.new.result.items)
    (map plain_dependence c.new-then-is_empty.result.items) =
    subst (λ (xs : List LabelId). AreComparedTo c.args.old.now c.args.new.now (ids_in xs)
    (map plain_dependence c.new.result.items)
    (map plain_dependence c.new-then-is_empty.result.items)) (sym none)
    (compared_first c.args.old.now c.args.new.now _ _
    (ap (map plain_dependence) c.new.ensures.items)
    (ap (map plain_dependence) c.new-then-is_empty.ensures.items)) in
    let told = compared_all c.args.old.now c.args.new.now c.new.result.items
    c.new-then-is_empty.result.items (ids_in ids) c.requires.others so_far in
    record { further = told.0; less = told.1 }
