-- What is given is within the most labels, and what is refused is over them.
use Rattle.std.proofs.Common.{[], ◌∷◌, ◌++◌, length}
use Rattle.mm_base.proofs.Lists.{error_keeps}
use Rattle.mm_step.specs.Tree.{spelling}
use Rattle.mm_rules.specs.Forms.{expand_fault}
use Rattle.mm_render.specs.Forms.{most_labels}
use Rattle.mm_render.proofs.ToldProofs.SpelledLabels.{expand_told}
use Rattle.mm_render.proofs.ToldProofs.ToldTrees.{steps_make}
use Rattle.mm_verdict.proofs.Questions.AskedTheorems.{given_is_within, refused_is_over}
use Rattle.mm_render.proofs.forms.labels_of.Goals as goal

pub expand-requires-clause-makes : goal.expand-requires-clause-makes
expand-requires-clause-makes c =
    steps_make c.args.book.now.statements c.args.theorem.now.id.0 c.args.theorem.now.steps
    c.requires.1

pub returns-clause-spelled : goal.returns-clause-spelled
returns-clause-spelled c = λ index s moves number numbered label below made. (
  c.in_ok-expand.ensures.spelled index s moves number numbered label below made,
  given_is_within c.in_ok-expand.field-0 most_labels (length (spelling below ++ label ∷ []))
      (c.in_ok-expand.ensures.over index s moves number numbered label below made),
)

pub returns-in_err-expand-clause-fault : goal.returns-in_err-expand-clause-fault
returns-in_err-expand-clause-fault c =
    error_keeps c.from_residual.result (expand_fault c.in_err-expand.field-0.0) _
    c.from_residual.ensures.1
    (expand_told c.expand.result c.in_err-expand.field-0.0 c.in_err-expand.was
    (λ is index s moves number numbered label below made.
    refused_is_over c.expand.result most_labels (length (spelling below ++ label ∷ [])) is
    (c.expand.ensures.within index s moves number numbered label below made)))
