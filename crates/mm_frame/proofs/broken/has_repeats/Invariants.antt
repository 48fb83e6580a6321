use Rattle.std.proofs.Common.{◌≡◌, ◌-◌, ◌≤◌, length, take, map}
use Rattle.mm_frame.proofs.Names.NameNumbers.{StandOnce}
use Rattle.mm_frame.proofs.broken.has_repeats.Given as goal

abbrev pub invariant-loop-token : goal.invariant-loop-token
invariant-loop-token l = record {
  names : l.seen.names ≡ take l.token-index (map (λ token. token.text.now) l.symbols);
  once : StandOnce l.seen.names;
  room : length l.symbols - l.token-index ≤ l.seen.room;
}
