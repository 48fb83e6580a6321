-- No more bytes stand behind the last line feed of a text than it has.
use Rattle.std.proofs.Common.{◌==◌, arith, not}
use Rattle.std.proofs.lemmas.List.Sums.{suffix_len-le-length}
use Rattle.mm_rules.proofs.position.column_of.Goals as goal

pub overflow_add-result : goal.overflow_add-result
overflow_add-result c =
    omega (arith, suffix_len-le-length (λ b. not (b == 10)) c.bytes_before.result.now)
