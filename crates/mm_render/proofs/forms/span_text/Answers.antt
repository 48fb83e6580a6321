-- What is put is that of the form.
use Rattle.std.proofs.Common.{ℕ, List, ◌∷◌, take, ap, subst, ◌∙◌}
use Rattle.mm_step.specs.Tree.{none, tree}
use Rattle.mm_render.specs.Forms.{IsSmallBehind}
use Rattle.mm_render.specs.Saved.{IsShorter, with_ends_of}
use Rattle.mm_render.proofs.forms.span_text.Goals as goal

pub returns-in_ok-behind_line_end-in-Normal-clause-put
    : goal.returns-in_ok-behind_line_end-in-Normal-clause-put
returns-in_ok-behind_line_end-in-Normal-clause-put c =
    rw c.in-Normal.is (λ index s moves number numbered label below made. (
      c.in_ok-text-in-Normal.text.items,
      c.in_ok-text-in-Normal.ensures.text index s moves number numbered label below made,
      c.in_ok-behind_line_end-in-Normal.ensures
          ∙ ap (λ (l : List ℕ). with_ends_of c.args.old.now (10 ∷ l)) c.deref.ensures.value,
    ))

pub returns-in_ok-behind_line_end-in-Packed-clause-put
    : goal.returns-in_ok-behind_line_end-in-Packed-clause-put
returns-in_ok-behind_line_end-in-Packed-clause-put c =
    rw c.in-Packed.is (λ index s moves number numbered label below made. (
      c.in_ok-text-in-Packed.text.items,
      c.in_ok-text-in-Packed.ensures.text index s moves number numbered label below made,
      c.in_ok-behind_line_end-in-Packed.ensures
          ∙ ap (λ (l : List ℕ). with_ends_of c.args.old.now (10 ∷ l)) c.deref-in-Packed.ensures.value,
    ))

pub returns-in_ok-shorter-in-Small-clause-put : goal.returns-in_ok-shorter-in-Small-clause-put
returns-in_ok-shorter-in-Small-clause-put c =
    rw c.in-Small.is (λ index s moves number numbered label below made. (
      c.in_ok-text-in-Small.text.items,
      subst (λ (n : ℕ). IsSmallBehind n (take index c.args.book.now.statements) s
          (tree label below none) c.in_ok-text-in-Small.text.items) c.indent_in.ensures
          (c.in_ok-text-in-Small.ensures index s moves number numbered label below made),
      subst (λ (l : List ℕ). IsShorter c.args.old.now l c.in_ok-shorter-in-Small.field-0.items)
          c.in_ok-ended-in-Small.ensures c.in_ok-shorter-in-Small.ensures,
    ))
