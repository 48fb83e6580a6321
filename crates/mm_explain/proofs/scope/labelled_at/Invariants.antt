-- None of the statements so far has the label.
use Rattle.std.proofs.Common.{List, take}
use Rattle.std.specs.List.{AllZip}
use Rattle.mm_base.specs.Statement.{PlainStatement}
use Rattle.mm_frame.specs.Sentence.{SomeSentence, IsLabelled}
use Rattle.mm_explain.specs.Mirror.Outlined.{IsBrief}
use Rattle.mm_rules.specs.Verdict.{sentences}
use Rattle.mm_explain.proofs.scope.labelled_at.Given as goal

abbrev pub invariant-loop-index : goal.invariant-loop-index
invariant-loop-index l =
    (statements : List PlainStatement) → AllZip IsBrief statements l.briefs
    → ¬ (SomeSentence (sentences (take l.index statements)) (IsLabelled l.label))
