-- All of the patterns are met where those are that are left.
use Rattle.std.proofs.Common.{◌↔◌, drop}
use Rattle.std.specs.List.{AllByRecursion}
use Rattle.mm_find.specs.Found.{IsMet}
use Rattle.mm_find.specs.Plain.{expressions_in, plain_assertion, plain_query}
use Rattle.mm_find.specs.Mirror.Types.{type_in}
use Rattle.mm_find.proofs.query.are_met.Given as goal

abbrev pub invariant-loop-pattern : goal.invariant-loop-pattern
invariant-loop-pattern l =
    AllByRecursion (IsMet (plain_query l.query) (type_in l.types) (plain_assertion l.assertion))
    (expressions_in l.patterns)
    ↔ AllByRecursion (IsMet (plain_query l.query) (type_in l.types) (plain_assertion l.assertion))
    (expressions_in (drop l.pattern-index l.patterns))
