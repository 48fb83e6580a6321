-- None of the refusals so far is of the label.
use Rattle.std.proofs.Common.{◌≡◌, false, map, take}
use Rattle.std.specs.List.{list_any}
use Rattle.mm_rules.specs.Answer.{plain_refusal}
use Rattle.mm_groups.specs.Shared.{is_of_label}
use Rattle.mm_groups.proofs.line.is_of_some.Given as goal

abbrev pub invariant-loop-refusal : goal.invariant-loop-refusal
invariant-loop-refusal l =
    list_any (is_of_label l.label) (map plain_refusal (take l.refusal-index l.refusals)) ≡ false
