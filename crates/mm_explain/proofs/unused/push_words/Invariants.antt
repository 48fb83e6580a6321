-- The text so far is that of the labels so far.
use Rattle.std.proofs.Common.{◌≡◌, ◌++◌, take}
use Rattle.mm_code.specs.Layout.{texts}
use Rattle.mm_rules.specs.Shown.{symbols_text}
use Rattle.mm_explain.proofs.unused.push_words.Given as goal

abbrev pub invariant-loop-label : goal.invariant-loop-label
invariant-loop-label l =
    l.out.items ≡ l.fn.out.items ++ symbols_text (texts (take l.label-index l.labels))
