-- By its tokens.
use Rattle.std.proofs.Common.{sym, ap, ◌∙◌}
use Rattle.mm_step.specs.Plain.{token_texts}
use Rattle.mm_with_lemmas.proofs.OtherProofs.{other_proof}
use Rattle.mm_with_lemmas.proofs.proof_text.is_other_proof.Goals as goal

pub returns-in-Some : goal.returns-in-Some
returns-in-Some c = λ t.
    let found = rw c.in-Some.is at c.in_ok-tokens.ensures in (
      found.0,
      other_proof c.args.text.now c.in-Some.tokens.items c.args.statement.now found.1
          (λ same. c.are_others-are.ensures t
          (ap token_texts c.deref.ensures.value ∙ same
          ∙ sym (ap token_texts c.deref-in-Some.ensures.value))),
    )
