use Rattle.std.proofs.Common.{rules, arith}
use Rattle.mm_frame.proofs.Blocks.ScopeStack.{active_by_end, no_end}
use Rattle.mm_frame.proofs.scopes.Scopes.is_active.Goals as goal

pub returns : goal.returns
returns c st a small =
    active_by_end a c.args.index c.args.at c.in-Some.block c.in-Some-at_index.end (search rules)
    (search rules) small c.requires.index (omega (arith, a.held, c.requires.within))

pub unreachable-requires : goal.unreachable-requires
unreachable-requires c =
    let (st, a) = c.requires.scopes in
    no_end a c.args.index c.in-Some.block (search rules) (search rules)
