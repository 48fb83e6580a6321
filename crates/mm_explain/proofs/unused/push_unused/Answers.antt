-- The moves that stop are those that the tokens say.
use Rattle.std.proofs.Common.{inr, take}
use Rattle.std.proofs.lemmas.Result.{on_ok_weaker}
use Rattle.mm_facts.proofs.TokenHalts.{moves_caused}
use Rattle.mm_explain.proofs.unused.push_unused.Goals as goal

pub returns-in-Moves : goal.returns-in-Moves
returns-in-Moves c =
    on_ok_weaker c.push_unused_at_stop.result
    (λ told profile id rule step r index s number.
    let moved = moves_caused c.in-Moves.is r in
    let says = moved.1.said index s number in
    let (unused, are, put) = told (take index c.args.book.now.statements) s says.1 says.2 says.3
    moved.1.prefix in (unused, inr (moved.0, are), put))
    c.push_unused_at_stop.ensures
