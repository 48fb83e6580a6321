use Rattle.std.proofs.Common.{◌≡◌, ◌-◌, length, take, map}
use Rattle.mm_frame.specs.Mirror.Declaring.{latest_by, HasSpace, TakesSymbols}
use Rattle.mm_frame.proofs.tables.Tables.declare_each.Given as goal

abbrev pub invariant-loop-token : goal.invariant-loop-token
invariant-loop-token l = record {
  taken : TakesSymbols l.fn.self l.self l.fn.kind (take l.token-index (map (λ token. token.text.now) l.symbols));
  space : HasSpace l.self (length l.symbols - l.token-index);
  latest : l.variable ≡ latest_by l.fn.kind (length l.fn.self.log.items);
}
