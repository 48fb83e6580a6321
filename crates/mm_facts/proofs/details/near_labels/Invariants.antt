-- The labels with lower numbers were offered, where the proof may name them.
use Rattle.std.proofs.Common.{◌≡◌}
use Rattle.mm_code.specs.Layout.{texts}
use Rattle.mm_facts.proofs.NearLabels.{GoneThrough}
use Rattle.mm_facts.proofs.details.near_labels.Given as goal

abbrev pub invariant-loop-number : goal.invariant-loop-number
invariant-loop-number l =
    (l.nearest.wanted.now ≡ l.wanted) × (l.nearest.listed.now ≡ l.fn.listed)
    × GoneThrough l.book.statements l.fn.id.0 l.number l.nearest.limit l.wanted (texts l.fn.listed)
    (texts l.nearest.found.items)
