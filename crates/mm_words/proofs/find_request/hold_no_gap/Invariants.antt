-- None of all tokens is `$*` where none of those is that are left.
use Rattle.std.proofs.Common.{◌≢◌, ◌↔◌, codes, drop}
use Rattle.std.specs.List.{AllByRecursion}
use Rattle.mm_code.specs.Layout.{texts}
use Rattle.mm_words.proofs.find_request.hold_no_gap.Given as goal

abbrev pub invariant-loop-token : goal.invariant-loop-token
invariant-loop-token l =
    AllByRecursion (λ token. token ≢ codes "$*") (texts l.tokens)
    ↔ AllByRecursion (λ token. token ≢ codes "$*") (texts (drop l.token-index l.tokens))
