use Rattle.std.proofs.Common.{◌≡◌, map, take}
use Rattle.mm_code.specs.Letters.{SpellsCodes, code_for}
use Rattle.mm_code.proofs.letters.write_codes.Given as goal

-- the text spells the codes so far, and each of their numbers stands for itself
abbrev pub invariant-loop-code : goal.invariant-loop-code
invariant-loop-code l = record {
  spelled : SpellsCodes l.text.items (take l.code-index l.codes);
  are_codes : map code_for (take l.code-index l.codes) ≡ take l.code-index l.codes;
}
