use Rattle.std.proofs.Common.{ℕ, List, ◌++◌, length}
use Rattle.mm_code.specs.Layout.{LettersLaidOut}
use Rattle.mm_code.specs.Mirror.Lines.{AppendsLetters}
use Rattle.mm_code.proofs.layout.add_letters.Given as goal

-- whatever lays out the letters that are left completes the lines
abbrev pub invariant-loop-rest : goal.invariant-loop-rest
invariant-loop-rest l = (block : List ℕ) → LettersLaidOut l.rest block → AppendsLetters l.fn.text.items (l.text.items ++ block) l.letters

abbrev pub decreases-loop-rest : goal.decreases-loop-rest
decreases-loop-rest l = length l.rest
