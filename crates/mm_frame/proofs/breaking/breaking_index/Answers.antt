use Rattle.mm_frame.specs.Mirror.Layout.{statements_of}
use Rattle.mm_frame.specs.Sentence.{sentence_in}
use Rattle.mm_frame.proofs.Rules.BreakingSymbols.{not_none}
use Rattle.mm_frame.proofs.breaking.breaking_index.Goals as goal

pub unreachable-requires : goal.unreachable-requires
unreachable-requires c =
    not_none c.args.rule (statements_of c.args.tables.now) (sentence_in c.args.statement.now) c.requires.broken.broken
    c.in_default.not-M1 c.in_default.not-M5 c.in_default.not-M6 (rw c.in-None.is at c.in_ok-index-in_default.ensures)
