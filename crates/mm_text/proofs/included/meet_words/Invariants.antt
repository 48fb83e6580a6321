use Rattle.std.proofs.Common.{◌≡◌, ◌≤◌, length}
use Rattle.mm_text.specs.Mirror.Included.{AreOfFiles, met_with}
use Rattle.mm_text.proofs.included.meet_words.Given as goal

-- the flags so far and the items that are left give the same flags, and no more items are left
abbrev pub invariant-loop-word : goal.invariant-loop-word
invariant-loop-word l = record {
  same : met_with l.met l.cursor ≡ met_with l.initial.met l.initial.cursor;
  files : AreOfFiles (length l.met) l.cursor;
  fewer : length l.cursor ≤ length l.initial.cursor;
}

abbrev pub decreases-loop-word : goal.decreases-loop-word
decreases-loop-word l = length l.cursor
