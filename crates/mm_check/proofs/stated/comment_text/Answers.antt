-- What is found right before the statement is told, and the end of a line.
use Rattle.std.proofs.Common.{List, ℕ, [], ◌∷◌, ◌++◌, ◌∙◌, ap}
use Rattle.mm_base.specs.Statement.{plain_statement}
use Rattle.mm_check.proofs.ToldComments.{comment_told}
use Rattle.mm_check.proofs.stated.comment_text.Goals as goal

pub returns : goal.returns
returns c =
    comment_told c.args.files.now (plain_statement c.args.statement.now) _ c.requires.0 c.requires.1 _
    c.in-Some.start c.in-Some.stop c.in-Some.ensures
    (c.in_ok-push.ensures.items ∙ ap (λ (l : List ℕ). l ++ 10 ∷ []) c.in_ok-text.ensures.items)
