-- The parts of the lines.
use Rattle.std.proofs.Common.{codes}
use Rattle.std.proofs.lemmas.Result.{on_ok_weaker}
use Rattle.mm_facts.proofs.DetailTexts.{pair_parts}
use Rattle.mm_facts.proofs.fact_lines.push_pair.Goals as goal

pub returns : goal.returns
returns c =
    on_ok_weaker c.push_replacements.result
    (λ h. pair_parts c.args.out.now.items (codes "  it asks $d ") c.args.x.now (codes " ") c.args.y.now
    (codes " $.") _ c.push_disjoint.new.out.items c.push_replacements.new.out.items
    c.in_ok-push_disjoint.ensures h)
    c.push_replacements.ensures
