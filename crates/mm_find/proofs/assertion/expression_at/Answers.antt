-- The names are those of the statement's symbols.
use Rattle.std.proofs.Common.{◌∙◌}
use Rattle.std.proofs.lemmas.Result.{IfOk-weaker}
use Rattle.mm_base.proofs.Lists.{get_within}
use Rattle.mm_frame.specs.Numbers.{labelled_sentences, symbols_of}
use Rattle.mm_step.specs.Stores.{numbers_in}
use Rattle.mm_rules.proofs.Numbers.{names_at, numbers_within}
use Rattle.mm_find.proofs.assertion.expression_at.Goals as goal

pub names_at-requires : goal.names_at-requires
names_at-requires c =
    let st = c.args.book.now.statements in
    let (s, there) = get_within (labelled_sentences st) c.args.id.0 c.requires in
    numbers_within (symbols_of st) (numbers_in c.expression.result.now) s.symbols
    (c.expression.ensures s there)

pub returns : goal.returns
returns c =
    IfOk-weaker c.names_at.result _ _
    (λ names told s there.
    told
    ∙ names_at (symbols_of c.args.book.now.statements) (numbers_in c.expression.result.now)
    s.symbols
    (c.expression.ensures s there))
    c.names_at.ensures
