-- The shapes so far are those of the patterns so far.
use Rattle.std.proofs.Common.{◌≡◌, map, take}
use Rattle.mm_code.specs.Layout.{texts}
use Rattle.mm_code.specs.Words.{tokens_in}
use Rattle.mm_find.specs.Plain.{expressions_in}
use Rattle.mm_find.specs.Shape.{shape_of}
use Rattle.mm_find.proofs.reply.shapes_for.Given as goal

abbrev pub invariant-loop-pattern : goal.invariant-loop-pattern
invariant-loop-pattern l =
    expressions_in l.shapes.items
    ≡ map (λ p. shape_of l.whole (tokens_in p)) (texts (take l.pattern-index l.patterns))
