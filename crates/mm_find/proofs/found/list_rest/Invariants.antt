-- What is listed so far is that of the statements so far.
use Rattle.std.proofs.Common.{map, length}
use Rattle.mm_text.specs.Files.{plain_file}
use Rattle.mm_find.specs.Plain.{plain_query}
use Rattle.mm_find.specs.Mirror.Types.{type_in}
use Rattle.mm_find.specs.Mirror.Walk.{IsListing}
use Rattle.mm_find.proofs.found.list_rest.Given as goal

abbrev pub invariant-loop-statement : goal.invariant-loop-statement
invariant-loop-statement l =
    IsListing (plain_query l.query) (type_in l.types) (map plain_file l.files) l.progress
    l.statements l.out.items

abbrev pub decreases-loop-statement : goal.decreases-loop-statement
decreases-loop-statement l = length l.statements.statements
