use Rattle.std.proofs.Common.{◌<◌, length, drop, arith}
use Rattle.std.proofs.lemmas.List.{length-drop}
use Rattle.mm_step.specs.Mirror.CodeVerify.{value_of}
use Rattle.mm_step.proofs.ByNumbers.SharedVariables.{entry_symbols, values_apart}
use Rattle.mm_step.proofs.ByNumbers.NumberedSymbols.{value_placed}
use Rattle.mm_step.proofs.pairs.is_disjoint_pair.Goals as goal

pub are_disjoint-requires-clause-first : goal.are_disjoint-requires-clause-first
are_disjoint-requires-clause-first g c =
    rw c.value_at-e.ensures (entry_symbols _ _ _ c.args.pair.indices.0 c.requires.symbols)

pub are_disjoint-requires-clause-second : goal.are_disjoint-requires-clause-second
are_disjoint-requires-clause-second g c =
    rw c.value_at-f.ensures (entry_symbols _ _ _ c.args.pair.indices.1 c.requires.symbols)

pub returns : goal.returns
returns g c variables indexed =
    let stack = g.S.Store.stack c.args.store.now in
    let es = drop c.args.base stack in
    let first : c.args.pair.indices.0 < length es = omega (arith, length-drop c.args.base stack, c.requires.first) in
    let second : c.args.pair.indices.1 < length es = omega (arith, length-drop c.args.base stack, c.requires.second) in
    values_apart (value_of variables es) _ _ _ _ _ c.are_disjoint.result
    (value_placed _ variables es _ _ indexed.0 first c.value_at-e.ensures)
    (value_placed _ variables es _ _ indexed.1 second c.value_at-f.ensures) c.are_disjoint.ensures
