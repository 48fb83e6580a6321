-- The statement that was read last is the theorem with the number.
use Rattle.std.proofs.Common.{◌++◌}
use Rattle.mm_verdict.proofs.Questions.TheoremsAgain.{at_in}
use Rattle.mm_lemmas.proofs.lacking.take_each.Goals as goal

pub theorem_at-requires : goal.theorem_at-requires
theorem_at-requires c =
    let inv = c.loop.invariant in
    let goes = rw c.in-Some.is at (c.in_ok-id.ensures.next inv.0 inv.1) in
    at_in c.args.checked.now.files (inv.0 ++ goes.0) c.in-Some.id.0 c.next_theorem.new.self goes.2
