use Rattle.std.proofs.Common.{◌≡◌, ◌+◌, ◌-◌, ◌≤◌, ◌++◌, length, take, drop, get_or, sym, ap, ◌∙◌, arith, false, true, append-nil, take-append-drop, length-drop}
use Rattle.mm_text.specs.Remarks.{before_mark, is_mark}
use Rattle.mm_text.proofs.SaidBefore.{before_mark-more, before_mark-stop, before_mark-short}
use Rattle.mm_text.proofs.remarks.before_mark.Goals as goal

pub returns-then-are_mark : goal.returns-then-are_mark
returns-then-are_mark c =
    let bytes = c.args.bytes.now in
    let at = c.loop-at.at in
    let from = c.loop-at.auto.at in
    let back : at - 1 + 1 ≡ at = omega arith in
    let mark : is_mark (get_or bytes (at - 1) 0) (get_or bytes (at - 1 + 1) 0) ≡ true =
    ap (λ n. is_mark (get_or bytes (at - 1) 0) (get_or bytes n 0)) back ∙ sym c.are_mark.ensures ∙ c.if-are_mark.true in
    sym (c.loop-at.invariant
    ∙ ap (λ t. take (at - 1) bytes ++ t) (before_mark-stop bytes (at - 1) (omega arith) mark)
    ∙ append-nil (take (at - 1) bytes))

pub loop-at-preserved : goal.loop-at-preserved
loop-at-preserved c =
    let bytes = c.args.bytes.now in
    let at = c.loop-at.at in
    let from = c.loop-at.auto.at in
    let back : at - 1 + 1 ≡ at = omega arith in
    let next : at - 1 + 1 ≡ at + 1 - 1 = omega arith in
    let other : is_mark (get_or bytes (at - 1) 0) (get_or bytes (at - 1 + 1) 0) ≡ false =
    ap (λ n. is_mark (get_or bytes (at - 1) 0) (get_or bytes n 0)) back ∙ sym c.are_mark.ensures ∙ c.if-are_mark.false in
    c.loop-at.invariant
    ∙ before_mark-more bytes (at - 1) (omega arith) other
    ∙ ap (λ n. take n bytes ++ before_mark (drop n bytes)) next

pub returns : goal.returns
returns c =
    let bytes = c.args.bytes.now in
    let at = c.loop-at.at in
    let short : length (drop (at - 1) bytes) ≤ 1 = omega (arith, length-drop (at - 1) bytes) in
    sym (c.loop-at.invariant
    ∙ ap (λ t. take (at - 1) bytes ++ t) (before_mark-short (drop (at - 1) bytes) short)
    ∙ take-append-drop (at - 1) bytes)
