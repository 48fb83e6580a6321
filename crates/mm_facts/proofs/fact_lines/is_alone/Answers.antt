-- Two symbols are no variable alone.
use Rattle.mm_frame.specs.Numbers.{symbols_of}
use Rattle.mm_facts.proofs.DetailTexts.{not_alone}
use Rattle.mm_facts.proofs.fact_lines.is_alone.Goals as goal

pub returns-in_default-2 : goal.returns-in_default-2
returns-in_default-2 c =
    not_alone c.args.x.now (symbols_of c.args.book.now.statements) c.args.e.now c.requires
    c.in_default.len_at_least
