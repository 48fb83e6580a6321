use Rattle.std.proofs.Common.{◌≡◌, ◌+◌, ◌-◌, ◌++◌, take, drop, sym, ap, subst, ◌∙◌, append_assoc, take-add, arith}
use Rattle.mm_text.specs.Mirror.Stripped.{IsStripped}
use Rattle.mm_text.proofs.stripped.Stripped.take.Goals as goal

pub loop-at-preserved : goal.loop-at-preserved
loop-at-preserved c = (
  c.in_ok-at.ensures.within,
  λ bytes stripped.
      let piece = c.args.piece.now in
      let at = c.loop-at.at in
      let end = c.in_ok-at.at in
      let next : at + (end - at) ≡ end = omega (arith, c.in_ok-at.ensures.from) in
      let whole = append_assoc bytes (take at piece) (take (end - at) (drop at piece)) ∙ ap (λ l. bytes ++ l) (sym (take-add at (end - at) piece) ∙ ap (λ m. take m piece) next) in
      subst (λ l. IsStripped l c.take_some.new.self.kept.items c.take_some.new.self.state) whole
      (c.in_ok-at.ensures.stripped (bytes ++ take at piece) (c.loop-at.invariant.1 bytes stripped)),
)
