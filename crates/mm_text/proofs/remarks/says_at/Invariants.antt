use Rattle.std.proofs.Common.{◌≡◌, ◌≤◌, length, drop}
use Rattle.std.specs.Prelude.{nat_eq}
use Rattle.std.specs.List.{starts_with}
use Rattle.mm_text.specs.Remarks.{spaced}
use Rattle.mm_text.proofs.remarks.says_at.Given as goal

-- the text says the sentence if the rest says what is left of it
abbrev pub invariant-loop-byte : goal.invariant-loop-byte
invariant-loop-byte l = record {
  within : l.at ≤ length l.text;
  same : starts_with nat_eq (spaced (drop l.start l.text)) l.sentence
      ≡ starts_with nat_eq (spaced (drop l.at l.text)) (drop l.byte-index l.sentence);
}
