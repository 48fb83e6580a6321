-- By the kind and the tokens of the proof.
use Rattle.std.proofs.Common.{Bool, List, not, sym, ap, ◌∙◌}
use Rattle.mm_base.specs.declared.token.Token.{Token}
use Rattle.mm_proof.specs.Tokens.{is_incomplete}
use Rattle.mm_step.specs.Plain.{token_texts}
use Rattle.mm_with_lemmas.proofs.SaidAlike.{told_other, told_proof}
use Rattle.mm_with_lemmas.proofs.replaced.is_theorem.Goals as goal

pub returns-in-Provable : goal.returns-in-Provable
returns-in-Provable c =
    ap (λ (b : Bool). not b) c.is_incomplete.ensures
    ∙ ap (λ (ts : List Token). not (is_incomplete (token_texts ts))) c.deref.ensures.value
    ∙ told_proof c.args.statement.now c.in-Provable.is

pub returns-in_default : goal.returns-in_default
returns-in_default c = sym (told_other c.args.statement.now c.in_default.not-Provable)
