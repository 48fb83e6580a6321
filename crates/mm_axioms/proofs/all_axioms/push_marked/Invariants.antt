-- The labels of the numbers so far.
use Rattle.std.proofs.Common.{◌≡◌, ◌++◌, map, take, codes}
use Rattle.std.specs.List.{flat_map}
use Rattle.mm_rules.specs.Answer.{labels_at}
use Rattle.mm_axioms.proofs.all_axioms.push_marked.Given as goal

abbrev pub invariant-loop-number : goal.invariant-loop-number
invariant-loop-number l =
    l.out.items ≡ l.fn.out.items ++ flat_map (λ label. codes " " ++ (l.mark ++ label)) (labels_at l.checked.labels (map (λ id. id.0) (take l.number-index l.numbers)))
