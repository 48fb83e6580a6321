-- What stands under the label of the last statement is that statement.
use Rattle.std.proofs.Common.{ap, option_map, inl, inr}
use Rattle.mm_base.specs.Token.{plain_token}
use Rattle.mm_base.specs.Statement.{plain_statement}
use Rattle.mm_explain.proofs.Explanations.{not_other, number_found}
use Rattle.mm_explain.proofs.why.last_number.Goals as goal

pub unreachable-requires : goal.unreachable-requires
unreachable-requires c =
    not_other c.args.book.now.statements c.requires.last.0 (plain_statement c.args.statement.now)
    c.in-Some.label.text.now c.requires.last.1 c.requires.formed c.requires.provable
    c.find.ensures.sound
    (ap (λ o. option_map (λ t. t.text) (option_map plain_token o)) c.in-Some.is) c.find.result
    c.find.ensures.found
    (λ id is. elim c.in-None-find.is [
      | inl none ↦ cc (none, is)
      | inr hypothesis ↦ cc (hypothesis.2, is)
    ])

pub returns : goal.returns
returns c = λ before e.
    number_found c.args.book.now.statements before (plain_statement c.args.statement.now)
    c.in-Some.label.text.now e c.requires.formed c.requires.provable c.find.ensures.sound
    (ap (λ o. option_map (λ t. t.text) (option_map plain_token o)) c.in-Some.is) c.in-Assertion.id
    c.in-Assertion.ensures.found
