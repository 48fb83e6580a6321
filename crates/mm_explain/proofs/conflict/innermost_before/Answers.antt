-- The last of the blocks that are open before the site.
use Rattle.std.proofs.Common.{◌≡◌, ◌∷◌, ◌++◌, length, None, Some, arith}
use Rattle.mm_explain.proofs.SemanticErrors.{taken_at}
use Rattle.mm_explain.proofs.InnermostBlocks.{balanced_before, empty_list, open_block_there}
use Rattle.mm_explain.proofs.conflict.innermost_before.Goals as goal

pub returns : goal.returns
returns c site =
    open_block_there site.before c.pass_first.new.visitor.blocks.items c.pop.new.self.items
    (Some c.in-Some.token) (balanced_before site)
    (rw (taken_at site) at (c.in_ok-pass_first.ensures (site.before ++ site.s ∷ site.after)
    site.ending site.reads))
    (rw c.in-Some.is at c.pop.ensures.items)

pub unreachable-requires : goal.unreachable-requires
unreachable-requires c =
    let (site, opened) = c.requires.opened in
    let none : length c.pass_first.new.visitor.blocks.items ≡ 0 =
    (let e = rw c.in-None.is at c.pop.ensures.cases in
    let ok = c.pass_first.new.visitor.blocks.ok in omega arith) in
    opened (open_block_there site.before c.pass_first.new.visitor.blocks.items
    c.pop.new.self.items None (balanced_before site)
    (rw (taken_at site) at (c.in_ok-pass_first.ensures (site.before ++ site.s ∷ site.after)
    site.ending site.reads))
    (empty_list c.pass_first.new.visitor.blocks.items none))
