use Rattle.std.proofs.Common.{◌≡◌, ◌+◌, ◌≤◌, ◌++◌, length, map, take}
use Rattle.mm_frame.specs.Mirror.Separated.{stated_at}
use Rattle.mm_frame.proofs.take_distinct.state.Given as goal

abbrev pub invariant-loop-pair : goal.invariant-loop-pair
invariant-loop-pair l = record {
  room : length l.pairs ≤ l.distinct.room + l.pair-index;
  stated : l.distinct.stated ≡ record {
    pairs = l.fn.distinct.stated.pairs ++ map (stated_at l.index) (take l.pair-index l.pairs);
    wide = l.fn.distinct.stated.wide;
  };
}
