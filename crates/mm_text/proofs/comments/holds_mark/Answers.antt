use Rattle.std.proofs.Common.{◌-◌, ◌≡◌, ◌+◌, ◌≤◌, false, length, drop, sym, ap, ◌∙◌, arith}
use Rattle.std.proofs.lemmas.List.{length-drop}
use Rattle.mm_text.specs.Items.{holds_mark}
use Rattle.mm_text.proofs.Tokens.WordsAndComments.{holds_mark-step, holds_mark-short}
use Rattle.mm_text.proofs.comments.holds_mark.Goals as goal

pub loop-at-preserved : goal.loop-at-preserved
loop-at-preserved c =
    let text = c.args.text.now in
    let at = c.loop-at.at in
    let back : at + 1 - 1 ≡ at = omega arith in
    ap (λ n. holds_mark (drop n text)) back
    ∙ sym (holds_mark-step text at false (sym c.are_mark.ensures ∙ c.if-are_mark.false) (omega arith) (omega arith))
    ∙ c.loop-at.invariant

pub returns : goal.returns
returns c =
    let short : length (drop (c.loop-at.at - 1) c.args.text.now) ≤ 1 = omega (arith, length-drop (c.loop-at.at - 1) c.args.text.now) in
    sym (holds_mark-short _ short) ∙ c.loop-at.invariant
