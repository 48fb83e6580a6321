-- The same symbols have the same numbers.
use Rattle.mm_minimize.proofs.ShorterTheorems.LoneUses.{one_code}
use Rattle.mm_minimize.proofs.shortening.have_one_code.Goals as goal

pub returns : goal.returns
returns c =
    one_code c.args.book.now.statements c.args.id.0 c.args.other.0 c.type_code.result
    c.type_code-2.result c.eq.result c.requires.id c.requires.other c.type_code.ensures
    c.type_code-2.ensures c.eq.ensures
