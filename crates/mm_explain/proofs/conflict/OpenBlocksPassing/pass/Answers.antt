-- A statement more opens a block, or closes one, or does neither.
use Rattle.std.proofs.Common.{[], ◌∙◌, ap, sym}
use Rattle.std.proofs.lemmas.Result.{on_ok_weaker}
use Rattle.mm_base.specs.Statement.{PlainStatement, plain_statement}
use Rattle.mm_explain.specs.Mirror.SemanticErrors.{positions_after}
use Rattle.mm_explain.proofs.InnermostBlocks.{positions_more}
use Rattle.mm_explain.proofs.conflict.OpenBlocksPassing.pass.Goals as goal

pub returns : goal.returns
returns c =
    let s : PlainStatement = plain_statement c.args.statement.now in
    on_ok_weaker c.pass_block.result
    (λ opened first passed has.
    opened ∙ ap (positions_after s.kind (s.first.file, s.first.at)) has
    ∙ sym (positions_more [] passed s))
    c.pass_block.ensures
