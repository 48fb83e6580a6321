-- What is laid out is the small proof.
use Rattle.std.proofs.Common.{ℕ, List, ap, subst, ◌∙◌}
use Rattle.std.proofs.lemmas.Result.{IfOk-weaker}
use Rattle.mm_code.specs.Layout.{texts}
use Rattle.mm_code.specs.SmallLayout.{SmallLaidOut}
use Rattle.mm_render.proofs.forms.small_behind.Goals as goal

pub returns : goal.returns
returns c =
    IfOk-weaker c.lay_out_small.result _ _
    (λ text laid index s moves number numbered label below made.
    let p = c.in_ok-small.ensures.proof index s moves number numbered label below made in
    record {
      listed = p.listed;
      codes = p.codes;
      letters = p.letters;
      small = p.small;
      spelled = p.spelled;
      coded = p.coded;
      laid = subst (λ (letters : List ℕ). SmallLaidOut c.args.indent p.listed letters text.items)
          (c.deref-2.ensures.value ∙ p.laid.1)
          (subst (λ (ls : List (List ℕ)).
          SmallLaidOut c.args.indent ls c.deref-2.result.now text.items)
          (ap texts c.deref.ensures.value ∙ p.laid.0) laid);
    })
    c.lay_out_small.ensures
