-- The parts of the line.
use Rattle.std.proofs.Common.{◌+◌, codes, decimal}
use Rattle.std.proofs.lemmas.Result.{on_ok_weaker}
use Rattle.mm_facts.specs.Explained.{mark_text}
use Rattle.mm_facts.proofs.DetailTexts.{mark_parts}
use Rattle.mm_facts.proofs.fact_lines.push_marks.Goals as goal

pub returns : goal.returns
returns c = on_ok_weaker c.push_number_between.result (λ written.
    mark_parts c.args.out.now.items (codes "  it repeats Z number ") (mark_text (c.args.tag + 1))
    (codes ", and there are ") (decimal c.args.there) (codes "\n")
    c.extend_from_slice.new.self.items c.push_mark.new.out.items c.push_number_between.new.out.items
    c.in_ok-extend_from_slice.ensures.items c.in_ok-push_mark.ensures written)
    c.push_number_between.ensures
