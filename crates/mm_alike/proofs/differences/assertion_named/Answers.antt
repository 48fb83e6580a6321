-- No assertion has the label where none is found.
use Rattle.mm_alike.proofs.DifferingNumbers.{none_named}
use Rattle.mm_alike.proofs.differences.assertion_named.Goals as goal

pub returns-in_default : goal.returns-in_default
returns-in_default c = record {
  some = tt;
  none = λ none n named. none_named c.args.book.now.statements c.args.label.now c.find.result
      c.find.ensures.sound c.find.ensures.found c.in_default.not-Assertion n named;
  sound = c.find.ensures.sound;
}
