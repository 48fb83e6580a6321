-- What comes before the line of the statement, and then it.
use Rattle.std.proofs.Common.{◌++◌, List, ℕ, ap, ◌∙◌}
use Rattle.mm_frame.proofs.Names.LabelNumbers.{numbered_get}
use Rattle.mm_verdict.specs.Stated.{statement_line}
use Rattle.mm_render.proofs.ToldProofs.ToldStatements.{on_ok}
use Rattle.mm_render.proofs.statement_lines.push_told.Goals as goal

pub returns : goal.returns
returns c =
    on_ok c.push_statement.result _ _
    (λ told index s numbered.
    let (lines, before, is) = c.in_ok-push_before.ensures index s numbered in (
      lines,
      before,
      told s (numbered_get _ _ _ _ numbered)
          ∙ ap (λ (l : List ℕ). l ++ statement_line s) is,
    ))
    c.push_statement.ensures
