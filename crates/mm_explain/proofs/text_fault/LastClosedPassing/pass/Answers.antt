-- The token of the statement, if it is a `$}`, is the last.
use Rattle.std.proofs.Common.{Option, Some, sym, ap, ◌∙◌, refl, if◌then◌else◌}
use Rattle.mm_base.specs.Token.{PlainToken}
use Rattle.mm_base.specs.Statement.{PlainStatement, plain_statement}
use Rattle.mm_base.specs.Blocks.{is_closing}
use Rattle.mm_explain.proofs.LastFaults.{last_closing}
use Rattle.mm_explain.proofs.text_fault.LastClosedPassing.pass.Goals as goal

pub returns : goal.returns
returns c = λ first passed has.
    let s : PlainStatement = plain_statement c.args.statement.now in
    c.closed_by-self.ensures
    ∙ ap (λ (o : Option PlainToken). if is_closing s.kind then Some s.first else o) has
    ∙ sym (last_closing passed s (is_closing s.kind) refl)
