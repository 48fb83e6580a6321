-- The last mark tells of all tokens and all symbols.
use Rattle.std.proofs.Common.{◌∙◌, sym, ap, take}
use Rattle.std.specs.Option.{option_copied}
use Rattle.std.proofs.lemmas.List.{take_all}
use Rattle.mm_code.specs.Layout.{texts}
use Rattle.mm_find.proofs.Shapes.{first_are_marks, told_none, told_some}
use Rattle.mm_find.proofs.shape.have_shape.Goals as goal

pub loop-token-init : goal.loop-token-init
loop-token-init c = rw c.in_ok-marks.ensures (first_are_marks c.args.symbols.now)

pub unreachable-requires : goal.unreachable-requires
unreachable-requires c =
    told_none (texts (take c.loop-token.token-index c.args.shape.now)) (texts c.args.symbols.now)
    c.loop-token.marks.items c.loop-token.invariant
    (rw c.deref-2.ensures.value at (sym c.last.ensures.value ∙ ap option_copied c.in-None.is))

pub returns : goal.returns
returns c =
    rw (take_all c.loop-token.token-index c.args.shape.now c.loop-token-test.false) at
    (told_some (texts (take c.loop-token.token-index c.args.shape.now)) (texts c.args.symbols.now)
    c.loop-token.marks.items c.loop-token.invariant c.in-Some.mark.now
    (rw c.deref-2.ensures.value at (sym c.last.ensures.value ∙ ap option_copied c.in-Some.is)))
