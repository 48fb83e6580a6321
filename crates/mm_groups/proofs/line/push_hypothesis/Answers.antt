-- The line, part by part.
use Rattle.mm_groups.proofs.SharedLabels.{five_parts}
use Rattle.mm_groups.proofs.line.push_hypothesis.Goals as goal

pub returns : goal.returns
returns c =
    five_parts _ _ _ _ _ _ _ _ _ _ _ c.in_ok-extend_from_slice.ensures.items
    c.in_ok-push_decimal.ensures c.in_ok-extend_from_slice-2.ensures.items
    c.in_ok-extend_from_slice-3.ensures.items c.in_ok-push.ensures.items
