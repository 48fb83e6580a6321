use Rattle.std.proofs.Common.{◌≡◌, ◌-◌, ◌++◌, take, drop, sym, ap, subst, ◌∙◌, append-nil, arith}
use Rattle.mm_text.specs.Mirror.Stripped.{IsStripped}
use Rattle.mm_text.proofs.Alike.StrippedFiles.{one_of}
use Rattle.mm_text.proofs.stripped.Stripped.take_some.Goals.{in-Outside+else-end-at, in-Inside+in_ok-end-in-Inside+else-end-at-2, in_default}
use Rattle.mm_text.proofs.stripped.Stripped.take_some.Goals as goal

pub returns-clause-stripped : goal.returns-clause-stripped
returns-clause-stripped c = λ bytes stripped.
    let so_far : IsStripped bytes c.match-self.self.kept.items c.match-self.self.state = elim c.match-self.branch [
      | in-Outside+else-end-at w ↦ rw w.self-is stripped
      | in-Inside+in_ok-end-in-Inside+else-end-at-2 w ↦
          let none : w.in_ok-end-in-Inside.end - c.args.at ≡ 0 = omega (arith, w.in_ok-end-in-Inside.ensures.from, w.if-end-at-2.false) in
          rw w.self-is (subst (λ l. IsStripped l w.leave_out_lines.new.self.kept.items w.leave_out_lines.new.self.state)
          (ap (λ m. bytes ++ take m (drop c.args.at c.args.piece.now)) none ∙ append-nil bytes) (w.in_ok-end-in-Inside.ensures.stripped bytes stripped))
      | in_default w ↦ rw w.self-is stripped
    ] in
    subst (λ l. IsStripped (bytes ++ l) c.take_one.new.self.kept.items c.take_one.new.self.state) (sym (one_of c.args.piece.now c.args.at c.requires)) (c.in_ok-take_one.ensures bytes so_far)
