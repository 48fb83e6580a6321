use Rattle.mm_frame.specs.Mirror.Layout.{statements_of}
use Rattle.mm_frame.proofs.Rules.SymbolLookups.{sought_more}
use Rattle.std.proofs.Common.{refl}
use Rattle.mm_frame.proofs.sought.look_up_each.Goals as goal

pub loop-token-init : goal.loop-token-init
loop-token-init c =
    rw c.clear.ensures.items (record { count = refl; each = λ i n x there at. absurd (cc) })

pub loop-token-preserved : goal.loop-token-preserved
loop-token-preserved c =
    rw c.in_ok-push.ensures.items (sought_more (statements_of c.args.tables.now) c.loop-token.numbers.items c.number_guessed.result c.args.symbols.now c.loop-token.token-index _
    c.loop-token-test.true c.loop-token.invariant c.number_guessed.ensures)
