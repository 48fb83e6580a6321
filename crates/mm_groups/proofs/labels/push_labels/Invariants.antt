-- Those of the tokens so far are appended that stand for no unknown step.
use Rattle.std.proofs.Common.{◌≡◌, ◌++◌, filter, take}
use Rattle.mm_code.specs.Layout.{texts}
use Rattle.mm_step.specs.Plain.{token_texts}
use Rattle.mm_groups.specs.Shared.{is_known}
use Rattle.mm_groups.proofs.labels.push_labels.Given as goal

abbrev pub invariant-loop-token : goal.invariant-loop-token
invariant-loop-token l =
    texts l.labels.items
    ≡ texts l.fn.labels.items ++ filter is_known (token_texts (take l.token-index l.tokens))
