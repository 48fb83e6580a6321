-- The symbols are those of the `$d`.
use Rattle.mm_base.proofs.Lists.{get_within}
use Rattle.mm_frame.specs.Numbers.{symbols_of}
use Rattle.mm_step.specs.Stores.{numbers_in}
use Rattle.mm_rules.proofs.Numbers.{numbers_within}
use Rattle.mm_render.proofs.ToldProofs.ToldStatements.{further_told}
use Rattle.mm_render.proofs.statement_lines.push_further.Goals as goal

pub push_symbols-requires : goal.push_symbols-requires
push_symbols-requires c =
    let st = c.args.book.now.statements in
    let (d, there) = get_within st c.args.index c.requires in
    numbers_within (symbols_of st) (numbers_in c.symbols_at.result.now) d.symbols
    (c.symbols_at.ensures d there)

pub returns : goal.returns
returns c d there =
    further_told c.args.book.now.statements d (numbers_in c.symbols_at.result.now)
    c.args.out.now.items c.extend_from_slice.new.self.items c.push_symbols.new.out.items
    c.push.new.self.items (c.symbols_at.ensures d there) c.in_ok-extend_from_slice.ensures.items
    c.in_ok-push_symbols.ensures c.in_ok-push.ensures.items
