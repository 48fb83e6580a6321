-- What is laid out is the small proof.
use Rattle.std.proofs.Common.{ℕ, List, ap, subst, ◌∙◌}
use Rattle.mm_code.specs.Layout.{texts, CompressedLaidOut}
use Rattle.mm_render.proofs.forms.small_text.Goals as goal

pub returns-clause-text : goal.returns-clause-text
returns-clause-text c = λ index s moves number numbered label below made.
    let p = c.in_ok-small.ensures.proof index s moves number numbered label below made in
    let text : List ℕ = c.in_ok-lay_out_compressed.field-0.items in
    record {
      listed = p.listed;
      codes = p.codes;
      letters = p.letters;
      small = p.small;
      spelled = p.spelled;
      coded = p.coded;
      laid = subst (λ (letters : List ℕ). CompressedLaidOut p.listed letters text)
          (c.deref-2.ensures.value ∙ p.laid.1)
          (subst (λ (ls : List (List ℕ)). CompressedLaidOut ls c.deref-2.result.now text)
          (ap texts c.deref.ensures.value ∙ p.laid.0) c.in_ok-lay_out_compressed.ensures);
    }
