use Rattle.std.proofs.Common.{arith}
use Rattle.mm_frame.proofs.Blocks.ScopeStack.{scope_depth}
use Rattle.mm_frame.proofs.scopes.Scopes.depth.Goals as goal

pub returns : goal.returns
returns c st a = let d = scope_depth a in omega (arith, d.0)
