-- What is given is within the most labels, and what is refused is over them.
use Rattle.std.proofs.Common.{ℕ, List, ap, length, subst, sym, ◌∙◌, ◌≡◌}
use Rattle.mm_base.proofs.Lists.{error_keeps}
use Rattle.mm_code.specs.Layout.{LaidOut, texts}
use Rattle.mm_frame.specs.declared.number.LabelId.{LabelId}
use Rattle.mm_step.specs.Tree.{spelling}
use Rattle.mm_forms.specs.Spelled.{AreLabelsOf}
use Rattle.mm_rules.specs.Forms.{expand_fault}
use Rattle.mm_render.specs.Forms.{most_labels, with_unknown}
use Rattle.mm_render.proofs.ToldProofs.SpelledLabels.{expand_told, passed_row}
use Rattle.mm_verdict.proofs.Questions.AskedTheorems.{given_is_within, refused_is_over}
use Rattle.mm_render.proofs.beginning.beginning_text.Goals as goal

pub returns-in_err-labels-clause-fault : goal.returns-in_err-labels-clause-fault
returns-in_err-labels-clause-fault c =
    error_keeps c.from_residual.result (expand_fault c.in_err-labels.field-0.0) _
    c.from_residual.ensures.1
    (expand_told c.expand_beginning.result c.in_err-labels.field-0.0 c.in_err-labels.was
    (λ is index s moves proof numbered.
    let made = passed_row _ _ _ (c.requires.pass index s moves proof numbered) in (
      made.0,
      made.1,
      refused_is_over c.expand_beginning.result most_labels (length (spelling made.0)) is
          (c.expand_beginning.ensures.within index s moves proof numbered made.0 made.1),
    )))

pub returns-clause-text : goal.returns-clause-text
returns-clause-text c = λ index s moves proof numbered.
    let made = passed_row _ _ _ (c.requires.pass index s moves proof numbered) in
    let spelled = c.in_ok-labels.ensures.spelled index s moves proof numbered made.0 made.1 in
    let named : texts c.in_ok-names.names.items ≡ spelling made.0 =
    c.in_ok-names.ensures (spelling made.0)
    (subst (λ (ids : List LabelId). AreLabelsOf c.args.book.now.statements ids (spelling made.0))
    (sym c.deref.ensures.value) spelled) in (
      made.0,
      made.1,
      given_is_within c.in_ok-labels.labels most_labels (length (spelling made.0))
          (c.in_ok-labels.ensures.over index s moves proof numbered made.0 made.1),
      subst (λ (tokens : List (List ℕ)). LaidOut tokens c.in_ok-lay_out_normal.field-0.items)
          (ap texts c.deref-2.ensures.value ∙ c.in_ok-tokens.ensures
          ∙ ap (with_unknown c.args.unfinished) named)
          c.in_ok-lay_out_normal.ensures,
    )
