-- The tokens stand between two `$*`.
use Rattle.mm_find.proofs.Queries.{anywhere_told}
use Rattle.mm_find.proofs.query.anywhere.Goals as goal

pub returns : goal.returns
returns c =
    anywhere_told _ _ _ _ c.args.tokens.now _ _ c.new-shape.ensures.items c.in_ok-push.ensures.items
    c.in_ok-extend_from_slice.ensures.items c.in_ok-push-2.ensures.items
