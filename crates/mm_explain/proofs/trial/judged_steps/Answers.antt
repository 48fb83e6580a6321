-- The steps are those of the tokens that are judged, or these break a rule over the whole of them.
use Rattle.std.proofs.Common.{ℕ, List, Bool, Ok, Err, ap, refl, sym, subst}
use Rattle.mm_step.specs.Plain.{token_texts}
use Rattle.mm_frame.specs.Sentence.{Sentence}
use Rattle.mm_proof.specs.Parsed.{SaySteps}
use Rattle.mm_proof.specs.Tokens.{is_incomplete}
use Rattle.mm_base.proofs.Lists.{error_keeps}
use Rattle.mm_explain.proofs.LoneProofs.TriedTokens.{is_complete, judged_where, on_rule, tokens_fault}
use Rattle.mm_explain.proofs.trial.judged_steps.Goals as goal

pub returns-in_err-steps-clause-fault : goal.returns-in_err-steps-clause-fault
returns-in_err-steps-clause-fault c =
    error_keeps c.from_residual.result c.in_err-steps.field-0.0 _ c.from_residual.ensures.1
    (on_rule c.in_err-steps.field-0.0 _ (λ rule step is.
    tokens_fault c.args.book.now.statements c.args.id.0 (token_texts c.args.tokens.now) rule step
    c.requires.proof (λ whole. c.in_err-steps.ensures.fault whole rule step (ap Err is))
    (λ prefix. c.in_err-steps.ensures.known_fault prefix rule step (ap Err is))
    (is_incomplete (token_texts c.args.tokens.now)) refl))

pub returns-in-Steps-clause-said : goal.returns-in-Steps-clause-said
returns-in-Steps-clause-said c = λ index s number.
    let st : List Sentence = c.args.book.now.statements in
    let tokens : List (List ℕ) = token_texts c.args.tokens.now in
    let was = ap Ok c.in-Steps.is in
    let whole = is_complete (is_incomplete tokens)
    (c.in_ok-steps.ensures.complete c.in-Steps.steps was).0 in
    subst (λ (b : Bool). SaySteps st index s (judged_where b tokens) c.in-Steps.steps.moves)
    (sym whole) (c.in_ok-steps.ensures.steps c.in-Steps.steps was index s number)

pub returns-in-Incomplete-clause-said : goal.returns-in-Incomplete-clause-said
returns-in-Incomplete-clause-said c = λ index s number.
    let st : List Sentence = c.args.book.now.statements in
    let tokens : List (List ℕ) = token_texts c.args.tokens.now in
    let was = ap Ok c.in-Incomplete.is in
    subst (λ (b : Bool). SaySteps st index s (judged_where b tokens) c.in-Incomplete.steps.moves)
    (sym (c.in_ok-steps.ensures.incomplete c.in-Incomplete.steps was).0)
    (c.in_ok-steps.ensures.known c.in-Incomplete.steps was index s number)
