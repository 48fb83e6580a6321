-- What the progress tells in the end is the verdict.
use Rattle.mm_verdict.proofs.Verdicts.AcceptedStatements.{Concludes, end_concludes, labels_kept}
use Rattle.mm_verdict.proofs.Verdicts.AcceptedStatements.{counts_kept, uses_kept, kept_well}
use Rattle.mm_verdict.proofs.verdict.conclude.Goals as goal

pub new-requires : goal.new-requires
new-requires c = kept_well c.requires

-- what is kept of the progress
kept : (c : goal.After-new) → Concludes c.args.progress c.new.result
kept c = record {
  statements = c.new.ensures.statements;
  proofs = c.new.ensures.proofs;
  incomplete = c.new.ensures.incomplete;
  labels = c.new.ensures.labels;
  sentences = c.new.ensures.sentences;
  uses = c.new.ensures.uses;
}

pub returns-clause-verdict : goal.returns-clause-verdict
returns-clause-verdict c = end_concludes c.requires (kept c)

pub returns-clause-labels : goal.returns-clause-labels
returns-clause-labels c = labels_kept c.requires (kept c)

pub returns-clause-counts : goal.returns-clause-counts
returns-clause-counts c = counts_kept c.requires (kept c)

pub returns-clause-uses : goal.returns-clause-uses
returns-clause-uses c = uses_kept c.requires (kept c)
