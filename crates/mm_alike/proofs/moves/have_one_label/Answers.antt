-- By the bytes of the labels.
use Rattle.mm_alike.proofs.WidthsInBoth.{one_label_told}
use Rattle.mm_alike.proofs.moves.have_one_label.Goals as goal

pub returns : goal.returns
returns c =
    one_label_told c.args.old.now.statements c.args.new.now.statements c.args.one.0 c.args.other.0
    c.label.result.now c.label-2.result.now c.eq.result c.requires.one c.requires.other
    (λ s at. c.label.ensures s at) (λ s at. c.label-2.ensures s at) c.eq.ensures
