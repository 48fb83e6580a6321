-- Of the bytes since the last line feed those between the two positions are the last ones.
use Rattle.std.proofs.Common.{◌≡◌, ◌==◌, ℕ, List, length, take, drop, not, sym, ap}
use Rattle.std.proofs.Common.{◌∙◌, arith}
use Rattle.std.proofs.lemmas.List.Sums.{suffix_len-le-length}
use Rattle.mm_rules.specs.Places.{bytes_since_feed}
use Rattle.mm_rules.proofs.Lines.{same_line, new_line}
use Rattle.mm_rules.proofs.position.column_from.Goals as goal

pub returns-then-since-passed : goal.returns-then-since-passed
returns-then-since-passed c =
    let passed : List ℕ = drop c.args.before (take c.args.at c.args.bytes.now) in
    let is : c.bytes_from-passed.result.now ≡ passed =
    c.bytes_from-passed.ensures ∙ ap (drop c.args.before) c.bytes_before.ensures in
    let since : c.count_since_feed-since.result ≡ bytes_since_feed passed =
    c.count_since_feed-since.ensures ∙ ap bytes_since_feed is in
    let all : bytes_since_feed passed ≡ length passed =
    sym since ∙ c.if-since-passed.true ∙ ap length is in
    omega (
      arith,
      c.requires.column,
      since,
      same_line c.args.bytes.now c.args.before c.args.at c.requires.before all,
    )

pub returns-else-since-passed : goal.returns-else-since-passed
returns-else-since-passed c =
    let passed : List ℕ = drop c.args.before (take c.args.at c.args.bytes.now) in
    let is : c.bytes_from-passed.result.now ≡ passed =
    c.bytes_from-passed.ensures ∙ ap (drop c.args.before) c.bytes_before.ensures in
    let since : c.count_since_feed-since.result ≡ bytes_since_feed passed =
    c.count_since_feed-since.ensures ∙ ap bytes_since_feed is in
    let new = new_line c.args.bytes.now c.args.before c.args.at c.requires.before (λ all.
    c.if-since-passed.false (since ∙ all ∙ sym (ap length is))) in
    omega (arith, since, new)

pub overflow_add-result : goal.overflow_add-result
overflow_add-result c =
    let passed : List ℕ = drop c.args.before (take c.args.at c.args.bytes.now) in
    let is : c.bytes_from-passed.result.now ≡ passed =
    c.bytes_from-passed.ensures ∙ ap (drop c.args.before) c.bytes_before.ensures in
    let since : c.count_since_feed-since.result ≡ bytes_since_feed passed =
    c.count_since_feed-since.ensures ∙ ap bytes_since_feed is in
    let all : bytes_since_feed passed ≡ length passed =
    sym since ∙ c.if-since-passed.true ∙ ap length is in
    omega (
      arith,
      c.requires.column,
      since,
      same_line c.args.bytes.now c.args.before c.args.at c.requires.before all,
      suffix_len-le-length (λ b. not (b == 10)) (take c.args.at c.args.bytes.now),
      ap length c.bytes_before.ensures,
    )

pub overflow_add-result-else-since-passed : goal.overflow_add-result-else-since-passed
overflow_add-result-else-since-passed c =
    omega (
      arith,
      c.count_since_feed-since.ensures,
      suffix_len-le-length (λ b. not (b == 10)) c.bytes_from-passed.result.now,
    )
