-- Each byte so far is a letter.
use Rattle.std.proofs.Common.{take, All}
use Rattle.mm_code.specs.Letters.{IsLetter}
use Rattle.mm_places.proofs.whole_places.stray_index.Given as goal

abbrev pub invariant-loop-index : goal.invariant-loop-index
invariant-loop-index l = All IsLetter (take l.index l.letters)
