use Rattle.std.proofs.Common.{rules, tests}
use Rattle.mm_frame.specs.Mirror.Layout.{statements_of}
use Rattle.mm_frame.proofs.broken.breaks_m1.Goals as goal

pub returns-then-eq : goal.returns-then-eq
returns-then-eq c =
    let h = c.has_open.ensures (statements_of c.args.tables.now) c.requires.scopes in
    ((λ t. let (p, o) = h.0 t in (search (rules, tests), p, o)), (λ (k, p, o). h.1 (p, o)))
