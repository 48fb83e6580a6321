-- One more bit was looked at.
use Rattle.std.proofs.Common.{◌≡◌, sym, ◌∙◌, arith}
use Rattle.mm_axioms.proofs.Resting.RowNumbers.{told_more, told_passed, told_all}
use Rattle.mm_axioms.proofs.rows.push_told.Goals as goal
use Rattle.mm_axioms.proofs.rows.push_told.Goals.{then-has_bit+in_ok-push_at, else-has_bit}

pub loop-bit-preserved : goal.loop-bit-preserved
loop-bit-preserved c = elim c.if-has_bit.branch [
  | then-has_bit+in_ok-push_at w ↦
      rw w.out-is (told_more c.args.numbers.now c.args.word c.args.out.now.items
      c.loop-bit.out.items _ c.loop-bit.bit c.requires.rising c.loop-bit.invariant
      (sym c.has_bit.ensures ∙ w.if-has_bit.true) w.in_ok-push_at.ensures)
  | else-has_bit w ↦
      rw w.out-is (told_passed c.args.numbers.now c.args.word c.args.out.now.items
      c.loop-bit.out.items c.loop-bit.bit c.loop-bit-test.true c.loop-bit.invariant
      (λ t. absurd (let e = c.has_bit.ensures ∙ t in let f = w.if-has_bit.false in cc)))
]

pub returns : goal.returns
returns c =
    let all : 64 ≡ c.loop-bit.bit = omega arith in
    told_all c.args.numbers.now c.args.word c.args.out.now.items c.loop-bit.out.items c.loop-bit.bit
    all c.loop-bit.invariant
