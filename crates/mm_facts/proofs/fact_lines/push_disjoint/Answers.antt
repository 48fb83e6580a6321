-- The parts of the line.
use Rattle.std.proofs.Common.{codes}
use Rattle.std.proofs.lemmas.Result.{on_ok_weaker}
use Rattle.mm_facts.proofs.DetailTexts.{apart_parts}
use Rattle.mm_facts.proofs.fact_lines.push_disjoint.Goals as goal

pub returns : goal.returns
returns c =
    on_ok_weaker c.push_between-2.result
    (λ h. apart_parts c.args.out.now.items (codes "  it asks $d ") c.args.x.now (codes " ") c.args.y.now
    (codes " $.") c.push_between.new.out.items c.push_between-2.new.out.items
    c.in_ok-push_between.ensures h)
    c.push_between-2.ensures
