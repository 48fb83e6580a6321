-- The moves prove the statement, so they are listed.
use Rattle.std.proofs.Common.{Err, ap, ◌∙◌}
use Rattle.mm_render.proofs.ToldProofs.ShownSteps.{no_rule_fault}
use Rattle.mm_render.proofs.listing_lines.lines_of.Goals as goal

pub unreachable-requires : goal.unreachable-requires
unreachable-requires c =
    let a = c.requires.0 in
    no_rule_fault c.listing.result c.in-Err-Rule.field-0-0 c.in-Err-Rule.field-0-1 (c.in-Err-Rule.is ∙ ap Err c.in-Err-Rule.field-0-is)
    (c.listing.ensures.accepts a.index a.s a.moves a.proof a.numbered (c.requires.1 a.index a.s a.moves a.proof a.numbered))
