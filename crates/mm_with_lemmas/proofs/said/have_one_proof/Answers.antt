-- By the texts of the tokens.
use Rattle.std.proofs.Common.{sym, ap, ◌∙◌}
use Rattle.mm_step.specs.Plain.{token_texts}
use Rattle.mm_with_lemmas.proofs.SaidAlike.{same_proof}
use Rattle.mm_with_lemmas.proofs.said.have_one_proof.Goals as goal

pub returns : goal.returns
returns c = λ t.
    same_proof c.args.statement.now c.args.other.now
    (sym (ap token_texts c.deref.ensures.value) ∙ c.have_same_texts.ensures t
    ∙ ap token_texts c.deref-2.ensures.value)
