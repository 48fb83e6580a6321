-- The symbols before the index, as their tokens spell them.
use Rattle.std.proofs.Common.{◌≡◌, take, ap, ◌∙◌}
use Rattle.std.proofs.lemmas.List.{take-map}
use Rattle.mm_base.specs.Token.{plain_token}
use Rattle.mm_explain.proofs.earlier_declaration.last_symbol_before.Goals as goal

pub returns-in-Some : goal.returns-in-Some
returns-in-Some c =
    let tokens : c.first_of.result.now
    ≡ take c.in-Some.index c.args.error.now.statement.symbols.items =
    c.first_of.ensures ∙ ap (take c.in-Some.index) c.deref.ensures.value in
    rw (
      c.in-Some.is,
      take-map plain_token c.in-Some.index c.args.error.now.statement.symbols.items,
      ← tokens,
    )
    c.last_among.ensures
