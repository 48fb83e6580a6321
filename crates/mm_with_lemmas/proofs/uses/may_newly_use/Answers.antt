-- By the remarks of both.
use Rattle.std.proofs.Common.{List}
use Rattle.std.proofs.lemmas.Option.{slice_get-get_or}
use Rattle.mm_minimize.specs.declared.remarks.Remark.{Remark}
use Rattle.mm_with_lemmas.proofs.uses.may_newly_use.Goals as goal

pub returns : goal.returns
returns c = λ t files said statements index place s a reads at at_too.
    let remarks : List Remark = c.args.remarks.now in
    let of = said statements reads in
    (c.may_use.ensures files s a
    (of.each c.args.theorem.0 index s _ at
    (slice_get-get_or remarks c.args.theorem.0 _ c.requires.theorem))
    (of.each c.args.used.0 place a _ at_too
    (slice_get-get_or remarks c.args.used.0 _ c.requires.used))).0 t
