-- What was found behind the type code.
use Rattle.std.proofs.Common.{Some, None, drop, ap, sym, ◌∙◌}
use Rattle.mm_base.specs.Token.{plain_token}
use Rattle.mm_explain.proofs.NamesMet.{typed_found}
use Rattle.mm_explain.proofs.earlier_declaration.typing_of.Goals as goal

pub returns-in-Some : goal.returns-in-Some
returns-in-Some c =
    sym (typed_found c.args.name.now c.args.statement.now.kind
    (plain_token c.args.statement.now.first) c.args.statement.now.symbols.items
    c.after_first.result.now (Some c.in-Some.field-0) c.in-Floating.is
    (c.after_first.ensures ∙ ap (drop 1) c.deref.ensures.value)
    (rw c.in-Some.is at c.last_among.ensures))

pub returns-in-None : goal.returns-in-None
returns-in-None c =
    sym (typed_found c.args.name.now c.args.statement.now.kind
    (plain_token c.args.statement.now.first) c.args.statement.now.symbols.items
    c.after_first.result.now None c.in-Floating.is
    (c.after_first.ensures ∙ ap (drop 1) c.deref.ensures.value)
    (rw c.in-None.is at c.last_among.ensures))
