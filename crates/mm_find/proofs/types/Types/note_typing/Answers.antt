-- The table has one more, or the symbols are no typing.
use Rattle.std.proofs.Common.{List, ap, arith, map, ◌∙◌}
use Rattle.mm_base.specs.Token.{PlainToken, plain_token}
use Rattle.mm_base.specs.declared.token.Token.{Token}
use Rattle.mm_find.specs.Mirror.Types.{type_in}
use Rattle.mm_find.proofs.TypeTables.{looked_up, not_two, two_there, types_kept, types_more}
use Rattle.mm_find.proofs.types.Types.note_typing.Goals as goal

pub returns-in_ok-insert-in-len2 : goal.returns-in_ok-insert-in-len2
returns-in_ok-insert-in-len2 c before s are meant kind symbols =
    types_more before s _ _ (
      kind,
      symbols ∙ ap (λ (ts : List Token). map (λ (t : PlainToken). t.text) (map plain_token ts))
          (two_there c.args.symbols.now _ _ c.in-len2.len_at_least c.in-len2.len_below),
    )
    (type_in c.args.self.now) _ are meant
    (looked_up c.args.self.now.codes c.insert.new.self _ _
    c.in_ok-insert-in-len2.ensures.updates.0)

pub returns-in_default : goal.returns-in_default
returns-in_default c before s are meant kind symbols =
    types_kept before s (type_in c.args.self.now) are
    (not_two c.args.symbols.now s symbols (λ two. omega (arith, two, c.in_default.len_below)))

pub returns-in_default-2 : goal.returns-in_default-2
returns-in_default-2 c before s are meant kind symbols =
    types_kept before s (type_in c.args.self.now) are
    (not_two c.args.symbols.now s symbols (λ two. omega (arith, two, c.in_default.len_at_least)))
