-- The names so far are those of the symbols so far.
use Rattle.std.proofs.Common.{◌≡◌, take}
use Rattle.mm_code.specs.Layout.{texts}
use Rattle.mm_frame.specs.Numbers.{symbols_of}
use Rattle.mm_step.specs.Stores.{numbers_in}
use Rattle.mm_rules.specs.Answer.{labels_at}
use Rattle.mm_find.proofs.assertion.names_at.Given as goal

abbrev pub invariant-loop-symbol : goal.invariant-loop-symbol
invariant-loop-symbol l =
    texts l.names.items
    ≡ labels_at (symbols_of l.book.statements) (numbers_in (take l.symbol-index l.symbols))
