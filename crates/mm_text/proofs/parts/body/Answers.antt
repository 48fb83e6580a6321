use Rattle.std.proofs.Common.{refl, ◌∙◌}
use Rattle.mm_base.specs.Statement.{plain_statement}
use Rattle.mm_text.specs.Mirror.Reader.{InBody}
use Rattle.mm_text.specs.Mirror.Steps.{plain_scope}
use Rattle.mm_text.proofs.Reader.OneToken.{gives_err, answers_refused}
use Rattle.mm_text.proofs.parts.body.Goals as goal

pub returns-in_err-token : goal.returns-in_err-token
returns-in_err-token c =
    gives_err (plain_scope c.args.scope.now) _ _ _ _ _ _ c.from_residual-in_err-token.ensures.1
    (c.loop-cursor.invariant ∙ c.in_ok-words_of_body.ensures.reads)
    (c.in_err-token.ensures (InBody (plain_statement c.words_of_body.new.into)) refl refl)

pub returns-in_err-add_symbol-in-None : goal.returns-in_err-add_symbol-in-None
returns-in_err-add_symbol-in-None c =
    let taken = rw c.in-None.is at c.in_ok-token.ensures in
    gives_err (plain_scope c.args.scope.now) _ _ _ _ _ _
    c.from_residual-in_err-add_symbol-in-None.ensures.1
    (c.loop-cursor.invariant ∙ c.in_ok-words_of_body.ensures.reads)
    (answers_refused _ (InBody (plain_statement c.words_of_body.new.into)) _ _ _ _ _ tt taken.first
    c.in_err-add_symbol-in-None.ensures)
