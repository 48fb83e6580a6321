-- The word ends in the text.
use Rattle.std.proofs.Common.{ℕ, List, Bool, ap, arith, length, length-drop, not}
use Rattle.std.proofs.lemmas.List.Sums.{prefix_len-le-length}
use Rattle.mm_base.specs.Token.{is_space}
use Rattle.mm_mend.proofs.tried.word_end.Goals as goal

pub overflow_add-result : goal.overflow_add-result
overflow_add-result c =
    let p : ℕ → Bool = λ byte. not (is_space byte) in
    omega (
      arith,
      prefix_len-le-length p c.bytes_from.result.now,
      c.word_length.ensures,
      ap (λ (l : List ℕ). length l) c.bytes_from.ensures,
      length-drop c.args.at c.args.text.now,
    )
