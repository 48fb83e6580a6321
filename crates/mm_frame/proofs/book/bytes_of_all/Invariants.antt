use Rattle.std.proofs.Common.{◌≡◌, length, take, sum_by}
use Rattle.mm_frame.proofs.book.bytes_of_all.Given as goal

abbrev pub invariant-loop-token : goal.invariant-loop-token
invariant-loop-token l = l.bytes ≡ sum_by (λ t. length t.text.now) (take l.token-index l.tokens)
