use Rattle.std.proofs.Common.{◌+◌, ◌||◌, drop, sym, ap, ◌∙◌, arith}
use Rattle.std.specs.Prelude.{nat_eq}
use Rattle.std.specs.List.{starts_with}
use Rattle.std.proofs.lemmas.Slice.{between_to_end}
use Rattle.mm_text.specs.Remarks.{holds}
use Rattle.mm_text.proofs.SaidBefore.{holds-step, holds-nil, starts-nil}
use Rattle.mm_text.proofs.remarks.holds.Goals as goal

pub returns-then-starts_with : goal.returns-then-starts_with
returns-then-starts_with c =
    let text = c.args.text.now in
    let here = sym (ap (λ t. starts_with nat_eq t c.args.word.now) (between_to_end text c.loop-at.at _ (omega arith))) in
    sym (c.loop-at.invariant
    ∙ holds-step c.args.word.now c.args.text.now c.loop-at.at c.loop-at-test.true
    ∙ ap (λ b. b || holds c.args.word.now (drop (c.loop-at.at + 1) c.args.text.now)) (here ∙ sym c.starts_with.ensures.value ∙ c.if-starts_with.true))

pub loop-at-preserved : goal.loop-at-preserved
loop-at-preserved c =
    let text = c.args.text.now in
    let here = sym (ap (λ t. starts_with nat_eq t c.args.word.now) (between_to_end text c.loop-at.at _ (omega arith))) in
    c.loop-at.invariant
    ∙ holds-step c.args.word.now c.args.text.now c.loop-at.at c.loop-at-test.true
    ∙ ap (λ b. b || holds c.args.word.now (drop (c.loop-at.at + 1) c.args.text.now)) (here ∙ sym c.starts_with.ensures.value ∙ c.if-starts_with.false)

pub returns : goal.returns
returns c =
    c.is_empty.ensures ∙ sym (c.loop-at.invariant
    ∙ holds-nil c.args.word.now c.args.text.now c.loop-at.at c.loop-at-test.false
    ∙ starts-nil c.args.word.now)
