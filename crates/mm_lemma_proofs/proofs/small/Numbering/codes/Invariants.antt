-- Each code so far can be spelled.
use Rattle.std.proofs.Common.{All}
use Rattle.mm_code.specs.Letters.{HasSpelling}
use Rattle.mm_lemma_proofs.proofs.small.Numbering.codes.Given as goal

abbrev pub invariant-loop-mark : goal.invariant-loop-mark
invariant-loop-mark l = All HasSpelling l.codes.items
