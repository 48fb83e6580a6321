-- The parts of the line.
use Rattle.std.proofs.Common.{codes}
use Rattle.mm_facts.proofs.DetailTexts.{three_parts}
use Rattle.mm_facts.proofs.fact_lines.push_shared.Goals as goal

pub returns : goal.returns
returns c =
    three_parts c.args.out.now.items (codes "  both have:") _ (codes "\n") _ _ _
    c.in_ok-extend_from_slice.ensures.items c.in_ok-push_symbols.ensures c.in_ok-push.ensures.items
