use Rattle.std.proofs.Common.{arith, []}
use Rattle.std.proofs.lemmas.Option.{slice_get-get_or}
use Rattle.mm_proof.proofs.judge.step_again.Goals as goal

pub returns-clause-ok : goal.returns-clause-ok
returns-clause-ok g c =
    let there = slice_get-get_or (g.S.Store.kept c.args.store.now) c.args.tag [] (omega arith) in
    (_, there, c.in_ok-push_copy.ensures.pushed _ there)
