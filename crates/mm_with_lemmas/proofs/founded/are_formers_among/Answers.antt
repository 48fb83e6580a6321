-- One more.
use Rattle.std.proofs.Common.{List, Contains, map, sym, subst}
use Rattle.std.proofs.lemmas.List.{take_all}
use Rattle.mm_frame.specs.declared.number.LabelId.{LabelId}
use Rattle.mm_with_lemmas.specs.Mirror.Founding.{HasFormerAmong}
use Rattle.mm_with_lemmas.proofs.NamedUses.{each_more}
use Rattle.mm_with_lemmas.proofs.founded.are_formers_among.Goals as goal

pub loop-id-preserved : goal.loop-id-preserved
loop-id-preserved c =
    each_more
    (HasFormerAmong c.args.formers.now (map (λ (i : LabelId). i.0) c.args.others.now))
    c.args.ids.now c.loop-id.id-index _ c.loop-id-test.true c.loop-id.invariant
    (c.is_former_among.ensures c.if-not-is_former_among.false)

pub returns : goal.returns
returns c = λ t n among.
    c.loop-id.invariant n
    (subst (λ (ids : List LabelId). Contains (map (λ (i : LabelId). i.0) ids) n)
    (sym (take_all c.loop-id.id-index c.args.ids.now c.loop-id-test.false)) among)
