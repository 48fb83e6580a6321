-- By the numbers.
use Rattle.std.proofs.Common.{eq-eqb}
use Rattle.std.proofs.lemmas.Bool.{eqb-true}
use Rattle.mm_alike.proofs.WidthsInBoth.{one_width_told}
use Rattle.mm_alike.proofs.moves.have_one_width.Goals as goal

pub returns : goal.returns
returns c =
    one_width_told c.args.old.now.statements c.args.new.now.statements c.args.one.0 c.args.other.0
    c.width.result c.width-2.result _ c.width.ensures c.width-2.ensures (
      (λ t. eqb-true c.width.result c.width-2.result t),
      (λ e. eq-eqb c.width.result c.width-2.result e),
    )
