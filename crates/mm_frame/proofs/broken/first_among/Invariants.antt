use Rattle.mm_frame.specs.Mirror.Layout.{statements_of}
use Rattle.mm_frame.specs.Sentence.{sentence_in}
use Rattle.mm_frame.proofs.Rules.RuleOrder.{NoneOfFirst}
use Rattle.mm_frame.proofs.broken.first_among.Given as goal

abbrev pub invariant-loop-rule : goal.invariant-loop-rule
invariant-loop-rule l = NoneOfFirst l.rule-index (statements_of l.tables) (sentence_in l.statement)
