-- The labels of the frames.
use Rattle.mm_alike.proofs.ComparedFrames.{hypotheses_of_frame}
use Rattle.mm_alike.proofs.KeptWidths.{names_told}
use Rattle.mm_alike.proofs.written.name_the_same.Goals as goal

pub returns : goal.returns
returns c = λ t.
    names_told c.args.book.now.statements c.args.other_book.now.statements c.args.one.0
    c.args.other.0 c.hypotheses.result.now c.hypotheses-2.result.now
    (hypotheses_of_frame c.frame-frame.result c.args.book.now.statements c.args.one.0
    c.hypotheses.result.now c.frame-frame.ensures.book c.frame-frame.ensures.index
    c.hypotheses.ensures.ids)
    (hypotheses_of_frame c.frame-other_frame.result c.args.other_book.now.statements c.args.other.0
    c.hypotheses-2.result.now c.frame-other_frame.ensures.book c.frame-other_frame.ensures.index
    c.hypotheses-2.ensures.ids)
    (c.have_same_labels.ensures t)
