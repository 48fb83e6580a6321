-- The entries so far are the labels of the hypotheses so far.
use Rattle.std.proofs.Common.{◌≡◌, take}
use Rattle.mm_step.specs.Plain.{ids_in, label_ids}
use Rattle.mm_alike.proofs.trees.entries_of.Given as goal

abbrev pub invariant-loop-hypothesis : goal.invariant-loop-hypothesis
invariant-loop-hypothesis l =
    ids_in l.entries.items ≡ label_ids (take l.hypothesis-index l.hypotheses)
