use Rattle.std.proofs.Common.{◌≡◌, length}
use Rattle.mm_text.specs.Mirror.Included.{AreOfFiles, met_with}
use Rattle.mm_text.proofs.included.meet_items.Given as goal

-- the flags so far and the items that are left give the same flags
abbrev pub invariant-loop-token : goal.invariant-loop-token
invariant-loop-token l = record {
  same : met_with l.met l.cursor ≡ met_with l.initial.met l.initial.cursor;
  files : AreOfFiles (length l.met) l.cursor;
}

abbrev pub decreases-loop-token : goal.decreases-loop-token
decreases-loop-token l = length l.cursor
