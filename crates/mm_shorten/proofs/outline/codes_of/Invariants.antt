use Rattle.std.proofs.Common.{All}
use Rattle.mm_code.specs.Letters.{HasSpelling}
use Rattle.mm_shorten.proofs.outline.codes_of.Given as goal

abbrev pub invariant-loop-step : goal.invariant-loop-step
invariant-loop-step l = All HasSpelling l.codes.items
