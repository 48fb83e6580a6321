-- The tokens are those of the theorem's proof; where a rule is broken over all of them, nothing is
-- known.
use Rattle.std.proofs.Common.{◌≡◌, ◌∙◌, ◌≤◌, ℕ, List, [], length, ap, inl, inr, refl, subst, sym}
use Rattle.std.specs.List.{sum_by}
use Rattle.std.proofs.lemmas.Result.{IfOk-weaker}
use Rattle.mm_base.specs.MostBytes.{most_bytes}
use Rattle.mm_base.specs.Statement.{plain_statement}
use Rattle.mm_step.specs.Plain.{token_texts}
use Rattle.mm_step.specs.declared.fault.ProofRule.{ProofRule}
use Rattle.mm_step.specs.declared.profile.Profile.TheVariants.{Lenient}
use Rattle.mm_facts.specs.Explained.{IsTokensFault}
use Rattle.mm_rules.proofs.Judgements.JudgedProofs.{texts_of}
use Rattle.mm_rules.specs.Status.{number_of}
use Rattle.mm_rules.specs.Verdict.{proof_of, sentences}
use Rattle.mm_explain.proofs.LoneProofs.LoneTheorems.{of_reached, reached_fits}
use Rattle.mm_check.specs.KnownNormal.{IsKnownNormal}
use Rattle.mm_check.proofs.KnownSteps.{reached_proof}
use Rattle.mm_check.proofs.known_normal.known_normal_reply.Goals as goal

pub judged_steps-requires-clause-proof : goal.judged_steps-requires-clause-proof
judged_steps-requires-clause-proof c =
    reached_proof c.requires.0 c.args.reached.now (c.args.label.now, c.requires.1)

pub judged_steps-requires-clause-room : goal.judged_steps-requires-clause-room
judged_steps-requires-clause-room c =
    subst (λ (ts : List (List ℕ)). sum_by length ts ≤ most_bytes)
    (sym (ap token_texts c.deref.ensures.value ∙ texts_of c.args.reached.now.statement.proof.items))
    (reached_fits c.requires.0 c.args.label.now c.args.reached.now c.requires.1)

pub returns-in-Ok : goal.returns-in-Ok
returns-in-Ok c =
    let texts : token_texts c.deref.result.now
    ≡ proof_of (plain_statement c.args.reached.now.statement) =
    ap token_texts c.deref.ensures.value ∙ texts_of c.args.reached.now.statement.proof.items in
    IfOk-weaker c.steps_reply.result _ _
    (λ reply told files r. rw texts at
    (of_reached files c.args.label.now c.args.reached.now r
    (λ before s. IsKnownNormal c.args.label.now before s (token_texts c.deref.result.now)
    reply.text.items (number_of reply.status))
    (told (token_texts c.deref.result.now) c.in-Ok.ensures.said c.in-Ok.ensures.prefix)))
    c.steps_reply.ensures

pub returns-in_ok-unknown_text-in-Err-Rule : goal.returns-in_ok-unknown_text-in-Err-Rule
returns-in_ok-unknown_text-in-Err-Rule c = λ files r.
    let texts : token_texts c.deref.result.now
    ≡ proof_of (plain_statement c.args.reached.now.statement) =
    ap token_texts c.deref.ensures.value ∙ texts_of c.args.reached.now.statement.proof.items in
    let rule : ProofRule = c.in-Err-Rule.rule in
    let told = rw c.in-Err-Rule.field-0-is at c.in-Err-Rule.ensures.fault in
    let fault = rw texts at (of_reached files c.args.label.now c.args.reached.now r
    (λ before s. IsTokensFault Lenient before s (token_texts c.deref.result.now) rule 0)
    (rw told.0 at told.1)) in
    let text = c.in_ok-unknown_text-in-Err-Rule.ensures (sentences r.before) in
    let status = rw c.in-Err-Rule.field-0-is at c.refusal_status.ensures in
    inr (inr (rule, 0, fault, [], inl (refl, refl), inl (text, status)))
