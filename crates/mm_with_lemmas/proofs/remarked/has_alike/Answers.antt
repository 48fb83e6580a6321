-- The remark that stands there.
use Rattle.std.proofs.Common.{List, length, refl}
use Rattle.std.proofs.lemmas.Option.{slice_get_read}
use Rattle.mm_minimize.specs.declared.remarks.Remark.{Remark}
use Rattle.mm_with_lemmas.proofs.remarked.has_alike.Goals as goal

pub returns-in-Some : goal.returns-in-Some
returns-in-Some c = λ t.
    let remarks : List Remark = c.args.remarks.now in
    let own : Remark = c.in-Some.own.now in
    let there = c.in-Some.ensures.lookup in (
      own,
      slice_get_read remarks (length remarks) c.args.id.0 own refl there.3.0 there.1,
      c.are_alike.ensures t,
    )
