-- The text so far is that of the names so far.
use Rattle.std.proofs.Common.{◌≡◌, ◌++◌, codes, take}
use Rattle.std.specs.List.{flat_map}
use Rattle.mm_code.specs.Layout.{texts}
use Rattle.mm_facts.proofs.fact_lines.push_others.Given as goal

abbrev pub invariant-loop-name : goal.invariant-loop-name
invariant-loop-name l =
    l.out.items
    ≡ l.fn.out.items ++ flat_map (λ name. codes ", " ++ name) (texts (take l.name-index l.names))
