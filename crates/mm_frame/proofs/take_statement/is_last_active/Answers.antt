use Rattle.std.proofs.Common.{◌≡◌, ◌-◌, length, ◌∙◌, arith}
use Rattle.mm_frame.proofs.Rules.SymbolLookups.{at_end}
use Rattle.mm_frame.proofs.take_statement.is_last_active.Goals as goal

pub returns-in-Some : goal.returns-in-Some
returns-in-Some c st k p have small len there =
    let all : c.args.at ≡ length st = c.requires.all ∙ have.held in
    let last : length c.args.indices.now - 1 ≡ k = omega (arith, len) in
    let same : c.in-Some.index.now ≡ p = let at = rw last at c.in-Some.ensures.value in cc in
    at_end st p c.args.at c.is_active.result all (omega (arith, all, c.requires.within k p there))
    (rw same at (c.is_active.ensures st have small))
