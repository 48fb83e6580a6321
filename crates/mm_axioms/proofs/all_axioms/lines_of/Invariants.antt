-- The lines of the theorems so far.
use Rattle.std.proofs.Common.{List, None, map, take}
use Rattle.mm_base.specs.Statement.{PlainStatement}
use Rattle.mm_text.specs.Reading.{Reads}
use Rattle.mm_axioms.specs.Mirror.Tables.{AreLinesOf}
use Rattle.mm_axioms.proofs.all_axioms.lines_of.Given as goal

abbrev pub invariant-loop-theorem : goal.invariant-loop-theorem
invariant-loop-theorem l =
    (statements : List PlainStatement) → Reads l.checked.files statements None
    → AreLinesOf l.essential statements (map (λ x. x.0) (take l.theorem-index l.theorems)) l.out.items
