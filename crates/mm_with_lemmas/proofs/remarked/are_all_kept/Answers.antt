-- One more.
use Rattle.std.proofs.Common.{List, length, refl}
use Rattle.std.proofs.lemmas.Option.{slice_get_read}
use Rattle.mm_minimize.specs.declared.remarks.Remark.{Remark}
use Rattle.mm_with_lemmas.proofs.KeptRemarks.{kept_all, kept_on}
use Rattle.mm_with_lemmas.proofs.remarked.are_all_kept.Goals as goal

pub loop-number-preserved : goal.loop-number-preserved
loop-number-preserved c =
    let others : List Remark = c.args.others.now in
    let other : Remark = c.in-Some.other.now in
    let there = c.in-Some.ensures.lookup in
    kept_on c.args.old.now.statements c.args.new.now.statements c.args.remarks.now others
    c.loop-number.number other c.loop-number.invariant
    (slice_get_read others (length others) c.loop-number.number other refl there.3.0 there.1)
    (c.is_remark_kept.ensures c.if-not-is_remark_kept.false)

pub returns-in_default : goal.returns-in_default
returns-in_default c = λ t.
    kept_all c.args.old.now.statements c.args.new.now.statements c.args.remarks.now
    c.args.others.now c.loop-number.number c.in_default.ensures.lookup.3 c.loop-number.invariant
