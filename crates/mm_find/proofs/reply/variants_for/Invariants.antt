-- The variants so far are those of the patterns so far.
use Rattle.std.proofs.Common.{◌≡◌, map, take}
use Rattle.mm_code.specs.Layout.{texts}
use Rattle.mm_code.specs.Words.{tokens_in}
use Rattle.mm_find.specs.Plain.{expressions_in}
use Rattle.mm_find.proofs.reply.variants_for.Given as goal

abbrev pub invariant-loop-pattern : goal.invariant-loop-pattern
invariant-loop-pattern l =
    expressions_in l.variants.items ≡ map tokens_in (texts (take l.pattern-index l.patterns))
