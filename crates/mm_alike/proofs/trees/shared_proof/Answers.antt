-- The steps make a tree, and the packed proof shares it.
use Rattle.mm_step.specs.Tree.{none, tree}
use Rattle.mm_alike.proofs.ComparedFrames.{hypotheses_of_frame}
use Rattle.mm_alike.proofs.SharedTrees.{packed_moves, steps_make_one}
use Rattle.mm_alike.proofs.trees.shared_proof.Goals as goal

pub compress-requires-clause-makes : goal.compress-requires-clause-makes
compress-requires-clause-makes c =
    steps_make_one c.args.book.now.statements c.args.id.0 c.args.steps.now c.requires.1

pub returns : goal.returns
returns c = λ index s names number numbered label below made.
    packed_moves c.args.book.now.statements c.args.id.0 index s (tree label below none)
    c.hypotheses.result.now c.in_ok-packed.packed.labels.items c.in_ok-entries.entries.items
    c.in_ok-packed.packed.codes.items
    (hypotheses_of_frame c.frame-own.result c.args.book.now.statements c.args.id.0
    c.hypotheses.result.now c.frame-own.ensures.book c.frame-own.ensures.index
    c.hypotheses.ensures.ids) number (rw c.deref.ensures.value at c.in_ok-entries.ensures)
    (c.in_ok-packed.ensures.packed index s names number numbered label below made)
