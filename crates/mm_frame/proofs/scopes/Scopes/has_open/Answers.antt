use Rattle.std.proofs.Common.{rules, ◌≤◌, length}
use Rattle.mm_frame.proofs.Blocks.ScopeStack.{scope_some_open}
use Rattle.mm_frame.proofs.scopes.Scopes.has_open.Goals as goal

pub returns : goal.returns
returns c st a =
    let h = scope_some_open a in
    ((λ t. h.1 (search rules)), (λ p. let le : 2 ≤ length c.args.self.now.open.items = h.0 p in search rules))
