-- What was kept stays, and what is put at the end is the last.
use Rattle.std.proofs.Common.{◌++◌, [], ◌∷◌, List, map, length, ap, ◌∙◌, arith}
use Rattle.mm_rules.specs.Conclusion.{ProofUses}
use Rattle.mm_rules.specs.Mirror.Ordered.{ordered}
use Rattle.mm_rules.proofs.Numbers.{uses_push}
use Rattle.mm_rules.proofs.kept.Kept.push.Goals as goal

pub returns : goal.returns
returns c =
    rw (c.in_ok-push.ensures.items, c.in_ok-extend_from_slice.ensures.items)
    (uses_push c.self.inside.used.items c.args.used.now c.self.inside.proofs.items _ c.self.invariant (omega arith) (omega (arith, ap length c.in_ok-extend_from_slice.ensures.items))
    ∙ ap (λ (us : List ProofUses). us ++ record { number = c.args.id.0; used = ordered (map (λ l. l.0) c.args.used.now) } ∷ []) c.self.view_is)
