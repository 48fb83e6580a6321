-- The first of the statement's symbols.
use Rattle.std.proofs.Common.{◌∙◌}
use Rattle.mm_minimize.proofs.ShorterTheorems.LoneUses.{first_number}
use Rattle.mm_minimize.proofs.shortening.type_code.Goals as goal

pub returns : goal.returns
returns c = λ s at.
    first_number c.args.book.now.statements c.expression.result.now c.copied.result s.symbols
    (c.copied.ensures ∙ c.first.ensures.value) (c.expression.ensures s at)
