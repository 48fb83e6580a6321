-- The explanations so far are appended.
use Rattle.std.proofs.Common.{◌≡◌, ◌++◌, flat_map, take}
use Rattle.mm_explain.specs.Mirror.Reasons.{texts_in}
use Rattle.mm_explain.proofs.why.push_explanations.Given as goal

abbrev pub invariant-loop-text : goal.invariant-loop-text
invariant-loop-text l =
    l.out.items ≡ l.fn.out.items ++ flat_map (λ t. t) (texts_in (take l.text-index l.explanations))
