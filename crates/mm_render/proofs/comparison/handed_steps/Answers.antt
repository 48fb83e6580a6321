-- The tokens are those of the text.
use Rattle.mm_render.proofs.ToldProofs.ComparedTexts.{text_refused}
use Rattle.mm_verdict.proofs.Questions.AskedTheorems.{why}
use Rattle.mm_render.proofs.comparison.handed_steps.Goals as goal

pub proved_steps-requires-clause-complete : goal.proved_steps-requires-clause-complete
proved_steps-requires-clause-complete c =
    rw (c.deref.ensures.value, c.in_ok-tokens.ensures.tokens) c.in_ok-tokens.ensures.legal.complete

pub returns-clause-said : goal.returns-clause-said
returns-clause-said c =
    rw (c.deref.ensures.value, c.in_ok-tokens.ensures.tokens) at c.proved_steps.ensures.said

pub returns-clause-form : goal.returns-clause-form
returns-clause-form c =
    rw (c.deref.ensures.value, c.in_ok-tokens.ensures.tokens) at c.proved_steps.ensures.form

pub returns-clause-fault : goal.returns-clause-fault
returns-clause-fault c =
    why c.proved_steps.result _ _
    (λ fault refused. text_refused c.args.profile c.args.book.now.statements c.args.id.0
    c.args.text.now fault c.in_ok-tokens.ensures.legal
    (rw (c.deref.ensures.value, c.in_ok-tokens.ensures.tokens) at refused))
    c.proved_steps.ensures.fault
