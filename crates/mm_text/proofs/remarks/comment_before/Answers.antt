use Rattle.std.proofs.Common.{◌≡◌, ◌+◌, ◌-◌, get_or, ap, ◌∙◌, arith}
use Rattle.mm_text.proofs.SaidBefore.{comment-end}
use Rattle.mm_text.proofs.remarks.comment_before.Goals as goal
use Rattle.mm_text.proofs.remarks.comment_before.Goals.{then-end-lt2-via-then-end-lt2, then-end-lt2-via-else-end-lt2+then-bytes-end-ne36, then-end-lt2-via-else-end-lt2+else-bytes-end-ne36+then-bytes-end-ne41}

-- where no `$)` stands before the white space, no comment does
pub returns-then-end-lt2 : goal.returns-then-end-lt2
returns-then-end-lt2 c = λ start stop h.
    let bytes = c.args.bytes.now in
    let end = c.blank_start-end.result in
    let ends : stop + 2 ≡ end =
    comment-end bytes c.args.at start stop end h c.blank_start-end.ensures.before
    c.blank_start-end.ensures.blank c.blank_start-end.ensures.ink in
    let first : end - 2 ≡ stop = omega arith in
    let second : end - 1 ≡ stop + 1 = omega arith in
    let dollar = ap (λ n. get_or bytes n 0) first ∙ h.ends in
    let close = ap (λ n. get_or bytes n 0) second ∙ h.closes in
    elim c.then-end-lt2.branch [
      | then-end-lt2-via-then-end-lt2 w ↦ omega arith
      | then-end-lt2-via-else-end-lt2+then-bytes-end-ne36 w ↦ omega arith
      | then-end-lt2-via-else-end-lt2+else-bytes-end-ne36+then-bytes-end-ne41 w ↦ omega arith
    ]
