use Rattle.std.proofs.Common.{◌≡◌, map, take}
use Rattle.mm_text.proofs.Inclusions.OpenFiles.{AreDisjoint}
use Rattle.mm_text.proofs.names.Names.of.Given as goal

-- the names so far are kept, and no two of them are equal
abbrev pub invariant-loop-file : goal.invariant-loop-file
invariant-loop-file l = record {
  kept : map (λ n. n.0.now) l.numbers.keys ≡ take l.file-index (map (λ f. f.name.now) l.files);
  apart : AreDisjoint (map (λ f. f.name.now) l.files) l.file-index;
}
