use Rattle.std.proofs.Common.{◌≡◌, ◌≤◌, length, refl, arith}
use Rattle.mm_frame.proofs.Blocks.ScopeStack.{closed, some_under, scope_depth}
use Rattle.mm_frame.proofs.scopes.Scopes.close.Goals as goal

pub innermost-outer-requires : goal.innermost-outer-requires
innermost-outer-requires c =
    let s = c.args.self.now in
    let (st, a, more) = c.requires.scopes in
    let closes = more refl in
    let two : 2 ≤ length s.open.items = omega (arith, (scope_depth a).0) in
    some_under s.open.items c.pop.new.self.items c.pop.result two c.pop.ensures.items
    (λ some. c.pop.ensures.variant.1 (omega arith))

pub returns : goal.returns
returns c st e a is_close more =
    let (within, scopes) = closed _ _ e _ _ _ c.pop.new.self.items c.pop.result c.innermost-block.result c.innermost-outer.result
    c.innermost-block.ensures c.innermost-outer.ensures c.pop.ensures.items (λ some. c.pop.ensures.variant.1 (omega arith)) a is_close more in
    let index : c.len-index.result ≡ length c.args.self.now.blocks.items = omega arith in
    rw (c.put.ensures, c.write.ensures within, index) scopes
