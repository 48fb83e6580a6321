-- The tokens follow an empty list.
use Rattle.std.proofs.Common.{ap, ◌∙◌, ◌++◌}
use Rattle.mm_code.specs.Layout.{texts}
use Rattle.mm_find.proofs.query.copied.Goals as goal

pub returns : goal.returns
returns c =
    ap texts (c.in_ok-extend_from_slice.ensures.items
    ∙ ap (λ s. s ++ c.args.tokens.now) c.new-shape.ensures.items)
