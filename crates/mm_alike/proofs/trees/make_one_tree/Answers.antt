-- By what is written, or else by the fully shared proofs.
use Rattle.mm_alike.proofs.SharedTrees.{shared_told, written_told}
use Rattle.mm_alike.proofs.trees.make_one_tree.Goals as goal

pub returns-then-are_alike_steps : goal.returns-then-are_alike_steps
returns-then-are_alike_steps c =
    written_told c.args.old.now.statements c.args.new.now.statements c.args.one.0 c.args.other.0
    c.args.steps.now c.args.other_steps.now c.frame-own.ensures.sound.0
    c.frame-other.ensures.sound.0 c.requires.one.1 c.requires.other.1
    (c.are_alike_steps.ensures c.if-are_alike_steps.true)

pub returns : goal.returns
returns c =
    shared_told c.args.old.now.statements c.args.new.now.statements c.args.one.0 c.args.other.0
    c.args.steps.now c.args.other_steps.now c.frame-own.ensures.sound.0
    c.frame-other.ensures.sound.0 c.requires.one.1 c.requires.other.1 _ _ c.say_same_moves.result
    c.in_ok-shared.ensures c.in_ok-other_shared.ensures
    (rw (
      c.deref.ensures.value,
      c.deref-2.ensures.value,
      c.deref-3.ensures.value,
      c.deref-4.ensures.value,
    ) at c.say_same_moves.ensures)
