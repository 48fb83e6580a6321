-- By whether there are others.
use Rattle.std.proofs.Common.{◌∙◌, arith}
use Rattle.mm_find.proofs.AssertionLines.{last_sign, other_sign}
use Rattle.mm_find.proofs.line.sign_before.Goals as goal

pub returns-then-count-eq0 : goal.returns-then-count-eq0
returns-then-count-eq0 c others count = last_sign others (count ∙ c.if-count-eq0.true)

pub returns-else-count-eq0 : goal.returns-else-count-eq0
returns-else-count-eq0 c others count =
    other_sign others (λ none. absurd (let f = c.if-count-eq0.false in omega arith))
