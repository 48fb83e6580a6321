-- The parts of the line.
use Rattle.std.proofs.Common.{◌+◌, codes, decimal}
use Rattle.std.proofs.lemmas.Result.{on_ok_weaker}
use Rattle.mm_frame.specs.Numbers.{symbols_of}
use Rattle.mm_step.specs.Stores.{numbers_in}
use Rattle.mm_rules.specs.Answer.{labels_at}
use Rattle.mm_facts.specs.Explained.{symbol_at}
use Rattle.mm_facts.proofs.DetailTexts.{three_groups}
use Rattle.mm_facts.proofs.fact_lines.push_difference.Goals as goal

pub returns : goal.returns
returns c =
    on_ok_weaker c.push_between.result
    (λ h. three_groups c.args.out.now.items (codes "  they differ at symbol ") (decimal (c.args.index + 1)) (codes ": ")
    (symbol_at (labels_at (symbols_of c.args.book.now.statements) (numbers_in c.args.given.now))
    c.args.index) (codes " where ")
    (symbol_at (labels_at (symbols_of c.args.book.now.statements) (numbers_in c.args.asked.now))
    c.args.index) (codes " is asked\n")
    c.symbol_at.result.now c.symbol_at-2.result.now
    c.push_number_between.new.out.items c.extend_from_slice.new.self.items c.push_between.new.out.items
    c.symbol_at.ensures c.symbol_at-2.ensures c.in_ok-push_number_between.ensures c.in_ok-extend_from_slice.ensures.items h)
    c.push_between.ensures
