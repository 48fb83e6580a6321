-- One of all has the pattern where one of those has that are left.
use Rattle.std.proofs.Common.{◌↔◌, drop}
use Rattle.mm_code.specs.Layout.{texts}
use Rattle.mm_find.specs.Found.{HasPattern, SomeExpression}
use Rattle.mm_find.specs.Plain.{expressions_in}
use Rattle.mm_find.specs.Mirror.Types.{type_in}
use Rattle.mm_find.proofs.query.one_has_pattern.Given as goal

abbrev pub invariant-loop-expression : goal.invariant-loop-expression
invariant-loop-expression l =
    SomeExpression (HasPattern l.matching (type_in l.types) (texts l.pattern))
    (expressions_in l.expressions)
    ↔ SomeExpression (HasPattern l.matching (type_in l.types) (texts l.pattern))
    (expressions_in (drop l.expression-index l.expressions))
