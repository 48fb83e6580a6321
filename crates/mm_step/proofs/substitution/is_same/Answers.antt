use Rattle.std.proofs.Common.{◌∙◌}
use Rattle.mm_step.proofs.ByNumbers.NumberedSymbols.{same_numbers, same_told}
use Rattle.mm_step.proofs.substitution.is_same.Goals as goal

pub returns : goal.returns
returns c = same_told _ _ c.eq.result (c.eq.ensures ∙ same_numbers c.args.symbols.now c.args.others.now)
