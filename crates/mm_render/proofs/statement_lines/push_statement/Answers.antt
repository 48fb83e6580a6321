-- Label, keyword and symbols are those of the statement.
use Rattle.std.proofs.Common.{ap, sym, ◌∙◌}
use Rattle.mm_base.specs.Statement.{keyword_of}
use Rattle.mm_base.proofs.Lists.{get_within}
use Rattle.mm_frame.specs.Numbers.{labelled_sentences, symbols_of}
use Rattle.mm_step.specs.Stores.{numbers_in}
use Rattle.mm_rules.proofs.Numbers.{numbers_within}
use Rattle.mm_render.proofs.ToldProofs.ToldStatements.{statement_told}
use Rattle.mm_render.proofs.statement_lines.push_statement.Goals as goal

pub push_symbols-requires : goal.push_symbols-requires
push_symbols-requires c =
    let st = c.args.book.now.statements in
    let (s, there) = get_within (labelled_sentences st) c.args.id.0 c.requires in
    numbers_within (symbols_of st) (numbers_in c.expression.result.now) s.symbols
    (c.expression.ensures s there)

pub returns : goal.returns
returns c s there =
    statement_told c.args.book.now.statements s c.label.result.now c.keyword.result.now
    (numbers_in c.expression.result.now) c.args.out.now.items c.extend_from_slice.new.self.items
    c.push_word.new.out.items c.push_symbols.new.out.items c.push.new.self.items
    (c.label.ensures s there) (c.keyword.ensures ∙ ap keyword_of (sym (c.kind.ensures s there)))
    (c.expression.ensures s there) c.in_ok-extend_from_slice.ensures.items c.in_ok-push_word.ensures
    c.in_ok-push_symbols.ensures c.in_ok-push.ensures.items
