-- The line, part by part.
use Rattle.std.proofs.Common.{◌++◌, ap, ◌∙◌}
use Rattle.mm_groups.proofs.SharedLabels.{five_parts}
use Rattle.mm_groups.proofs.line.push_named.Goals as goal

pub returns : goal.returns
returns c =
    five_parts _ _ _ _ _ _ _ _ _ _ _ c.in_ok-extend_from_slice.ensures.items
    c.in_ok-push_decimal.ensures c.in_ok-extend_from_slice-2.ensures.items
    c.in_ok-extend_from_slice-3.ensures.items
    (c.in_ok-extend_from_slice-4.ensures.items
    ∙ ap (λ words. c.extend_from_slice-3.new.self.items ++ words) c.own_words.ensures)
