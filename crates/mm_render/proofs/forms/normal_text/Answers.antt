-- The names are the labels that the tree spells.
use Rattle.std.proofs.Common.{◌≡◌, ℕ, List, [], ◌∷◌, ◌++◌, sym, ap, subst, ◌∙◌}
use Rattle.mm_frame.specs.declared.number.LabelId.{LabelId}
use Rattle.mm_code.specs.Layout.{texts, LaidOut}
use Rattle.mm_step.specs.Tree.{spelling}
use Rattle.mm_forms.specs.Spelled.{AreLabelsOf}
use Rattle.mm_render.proofs.forms.normal_text.Goals as goal

pub returns-clause-text : goal.returns-clause-text
returns-clause-text c = λ index s moves number numbered label below made.
    let spelled : List (List ℕ) = spelling below ++ label ∷ [] in
    let told = c.in_ok-labels.ensures.spelled index s moves number numbered label below made in
    let names : texts c.in_ok-names.names.items ≡ spelled =
    c.in_ok-names.ensures spelled (subst (λ (ids : List LabelId). AreLabelsOf c.args.book.now.statements ids spelled) (sym c.deref.ensures.value) told.0) in (
      told.1,
      subst (λ (ls : List (List ℕ)). LaidOut ls c.in_ok-lay_out_normal.field-0.items) (ap texts c.deref-2.ensures.value ∙ names) c.in_ok-lay_out_normal.ensures,
    )
