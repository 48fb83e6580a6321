-- The `$d` are those that say more than mandatory pairs.
use Rattle.mm_render.proofs.ToldProofs.ToldStatements.{more_told, on_ok}
use Rattle.mm_render.proofs.statement_lines.push_more.Goals as goal

pub returns : goal.returns
returns c =
    on_ok c.push_all_further.result _ _
    (λ told index s numbered. more_told numbered c.frame.result c.in_ok-indices.indices.items
    c.args.out.now.items c.push_all_further.new.out.items c.frame.ensures.book
    c.frame.ensures.index c.in_ok-indices.ensures (rw c.deref.ensures.value at told))
    c.push_all_further.ensures
