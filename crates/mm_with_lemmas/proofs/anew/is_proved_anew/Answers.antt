-- By both proofs, the mark and the form.
use Rattle.std.proofs.Common.{sym, ◌∙◌}
use Rattle.std.proofs.lemmas.Result.{IfOk-weaker}
use Rattle.mm_with_lemmas.proofs.anew.is_proved_anew.Goals as goal

pub returns : goal.returns
returns c =
    IfOk-weaker c.is_strict.result _ _
    (λ strict h t before next. record {
      proved = sym c.is_theorem.ensures ∙ c.if-not-is_theorem.false;
      unmarked = c.may_be_marked.ensures c.if-may_be_marked.false;
      complete = sym c.is_theorem-else-not-is_theorem.ensures ∙ c.if-not-is_theorem-2.false;
      strict = h t before next;
    })
    c.is_strict.ensures
