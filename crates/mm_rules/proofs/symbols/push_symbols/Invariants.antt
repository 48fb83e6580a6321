-- The text so far is that of the symbols so far.
use Rattle.std.proofs.Common.{◌≡◌, ◌++◌, take}
use Rattle.mm_frame.specs.Numbers.{symbols_of}
use Rattle.mm_step.specs.Stores.{numbers_in}
use Rattle.mm_rules.specs.Answer.{labels_at}
use Rattle.mm_rules.specs.Shown.{symbols_text}
use Rattle.mm_rules.proofs.symbols.push_symbols.Given as goal

abbrev pub invariant-loop-symbol : goal.invariant-loop-symbol
invariant-loop-symbol l =
    l.out.items ≡ l.fn.out.items ++ symbols_text (labels_at (symbols_of l.book.statements) (numbers_in (take l.symbol-index l.symbols)))
