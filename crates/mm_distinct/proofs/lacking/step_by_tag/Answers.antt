use Rattle.std.proofs.Common.{arith, []}
use Rattle.std.proofs.lemmas.Option.{slice_get-get_or}
use Rattle.mm_distinct.proofs.lacking.step_by_tag.Goals as goal

pub returns-clause-steps : goal.returns-clause-steps
returns-clause-steps g c =
    let there = slice_get-get_or (g.S.Store.kept c.args.store.now) c.args.tag [] (omega arith) in
    (_, there, c.in_ok-push_copy.ensures.pushed _ there)
