use Rattle.std.proofs.Common.{◌≡◌, ◌+◌, ◌-◌, drop, get_or, false, true, cond, sym, ap, ◌∙◌, arith, add-zero, ne_eqb}
use Rattle.std.proofs.lemmas.Slice.{between_to_end}
use Rattle.mm_text.specs.Remarks.{headings, is_heading}
use Rattle.mm_text.proofs.SaidBefore.{headings-more, headings-add, headings-zero, no_heading}
use Rattle.mm_text.proofs.remarks.headings_between.Goals as goal
use Rattle.mm_text.proofs.remarks.headings_between.Goals.{then-bytes-at-eq36+then-is_heading, else-bytes-at-eq36, else-bytes-at-eq36-via-then-bytes-at-eq36+else-is_heading, else-bytes-at-eq36-via-else-bytes-at-eq36}

pub loop-at-init : goal.loop-at-init
loop-at-init c =
    let none : c.args.start - c.args.start ≡ 0 = omega arith in
    record {
      few = omega arith;
      count = sym (ap (λ n. headings n (drop c.args.start c.args.bytes.now)) none ∙ headings-zero (drop c.args.start c.args.bytes.now));
    }

pub loop-at-preserved : goal.loop-at-preserved
loop-at-preserved c =
    let bytes = c.args.bytes.now in
    let start = c.args.start in
    let at = c.loop-at.at in
    let from = c.loop-at.auto.at in
    let few = c.loop-at.invariant.few in
    let inner = c.loop-at.invariant.count in
    let more = headings-more bytes start at from (omega arith) in
    let whole = ap is_heading (between_to_end bytes at _ (omega arith)) in
    let old = headings (at - start) (drop start bytes) in
    elim c.if-bytes-at-eq36.branch [
      | then-bytes-at-eq36+then-is_heading w ↦
          let here : is_heading (drop at bytes) ≡ true =
          sym whole ∙ sym w.is_heading.ensures ∙ w.if-is_heading.true in
          record {
            few = omega arith;
            count = w.count-is ∙ ap (λ n. n + 1) inner ∙ sym (more ∙ ap (λ b. old + cond b 1 0) here);
          }
      | else-bytes-at-eq36 w ↦
          let here : is_heading (drop at bytes) ≡ false =
          elim w.else-bytes-at-eq36.branch [
            | else-bytes-at-eq36-via-then-bytes-at-eq36+else-is_heading v ↦
                sym whole ∙ sym v.is_heading.ensures ∙ v.if-is_heading.false
            | else-bytes-at-eq36-via-else-bytes-at-eq36 v ↦
                no_heading bytes at (omega arith) (ne_eqb (get_or bytes at 0) 36 v.if-bytes-at-eq36.false)
          ] in
          record {
            few = omega arith;
            count = w.count-is ∙ inner ∙ sym (more ∙ ap (λ b. old + cond b 1 0) here ∙ add-zero old);
          }
    ]

pub returns-clause-sum : goal.returns-clause-sum
returns-clause-sum c =
    let bytes = c.args.bytes.now in
    let start = c.args.start in
    let end = c.args.end in
    let order = c.requires.order in
    let ends : c.loop-at.at ≡ end = omega arith in
    let sum : end ≡ start + (end - start) = omega arith in
    ap (λ n. headings n bytes) sum ∙ headings-add start (end - start) bytes
    ∙ ap (λ n. headings start bytes + n) (sym (c.loop-at.invariant.count ∙ ap (λ n. headings (n - start) (drop start bytes)) ends))
