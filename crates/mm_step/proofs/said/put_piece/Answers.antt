use Rattle.std.proofs.Common.{take, arith}
use Rattle.mm_step.proofs.StoreRanges.{value-part}
use Rattle.std.proofs.lemmas.Option.{IfSome_then}
use Rattle.mm_step.proofs.said.put_piece.Goals as goal

pub returns-clause-said : goal.returns-clause-said
returns-clause-said c =
    let within = rw c.index.ensures at c.requires.within in
    rw c.index.ensures (IfSome_then c.put_part.result c.put_part.ensures.put (λ end put. (
      _,
      put,
      value-part (take c.args.used c.args.room.now) c.args.stack.now c.args.base c.index.result c.value_start.result _ (omega (arith, within))
          c.value_start.ensures.behind c.value_start.ensures.none,
    )))
