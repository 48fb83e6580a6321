-- A statement is left, so it is read.
use Rattle.std.proofs.Common.{refl}
use Rattle.mm_explain.proofs.semantic_error.read_next.Goals as goal

pub returns-clause-taken : goal.returns-clause-taken
returns-clause-taken c = rw c.if-branch.true at c.in_ok-more.ensures.on

pub returns-clause-formed : goal.returns-clause-formed
returns-clause-formed c = c.in_ok-more.ensures.formed (rw c.if-branch.true refl)

pub unreachable-requires : goal.unreachable-requires
unreachable-requires c = c.requires (rw c.if-branch.false at c.in_ok-more.ensures.on).0
