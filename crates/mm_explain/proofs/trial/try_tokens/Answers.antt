-- What the steps come to, the tokens come to.
use Rattle.std.proofs.Common.{◌≡◌, ℕ, List, Bool, true, false, Err, ap, refl, sym, subst, take}
use Rattle.std.proofs.Common.{◌∙◌}
use Rattle.mm_step.specs.Plain.{token_texts}
use Rattle.mm_frame.specs.Sentence.{Sentence}
use Rattle.mm_proof.specs.Tokens.{is_incomplete}
use Rattle.mm_base.proofs.Lists.{error_keeps}
use Rattle.mm_explain.proofs.LoneProofs.TriedTokens.{judged_where, moves_fault, moves_tried, on_rule}
use Rattle.mm_explain.proofs.LoneProofs.TriedTokens.{SayJudged}
use Rattle.mm_explain.proofs.trial.try_tokens.Goals as goal

pub returns-in_err-_used-clause-fault : goal.returns-in_err-_used-clause-fault
returns-in_err-_used-clause-fault c =
    let st : List Sentence = c.args.book.now.statements in
    let tokens : List (List ℕ) = token_texts c.args.tokens.now in
    let read = c.in_ok-steps.ensures in
    error_keeps c.from_residual-in_err-_used.result c.in_err-_used.field-0.0 _
    c.from_residual-in_err-_used.ensures.1
    (on_rule c.in_err-_used.field-0.0 _ (λ rule step is index s number.
    let said = read.said index s number in
    moves_fault (take index st) s tokens said.1 (is_incomplete tokens) refl (said.0, said.2) rule
    step
    (λ whole. rw read.profile at (c.in_err-_used.ensures.fault (read.prefix ∙ whole) rule step
    (ap Err is) index s said.1 number said.3))
    (λ prefix. rw read.profile at (c.in_err-_used.ensures.prefix_fault (read.prefix ∙ prefix)
    rule step (ap Err is) index s said.1 number said.3))))

pub returns-then-is_prefix-clause-tried : goal.returns-then-is_prefix-clause-tried
returns-then-is_prefix-clause-tried c = λ index s number.
    let st : List Sentence = c.args.book.now.statements in
    let tokens : List (List ℕ) = token_texts c.args.tokens.now in
    let read = c.in_ok-steps.ensures in
    let said = read.said index s number in
    let prefix : c.in_ok-steps.steps.prefix ≡ true =
    sym c.is_prefix.ensures ∙ c.if-is_prefix.true in
    let open_one : is_incomplete tokens ≡ true = sym read.prefix ∙ prefix in
    moves_tried (take index st) s tokens said.1 true open_one
    (subst (λ (b : Bool). SayJudged (take index st) s (judged_where b tokens) said.1) open_one
    (said.0, said.2))
    (λ no. absurd cc)
    (λ yes. rw read.profile at ((c.in_ok-_used.ensures.passed prefix).1 index s said.1 number
    said.3))

pub returns-clause-tried : goal.returns-clause-tried
returns-clause-tried c = λ index s number.
    let st : List Sentence = c.args.book.now.statements in
    let tokens : List (List ℕ) = token_texts c.args.tokens.now in
    let read = c.in_ok-steps.ensures in
    let said = read.said index s number in
    let prefix : c.in_ok-steps.steps.prefix ≡ false =
    sym c.is_prefix.ensures ∙ c.if-is_prefix.false in
    let whole : is_incomplete tokens ≡ false = sym read.prefix ∙ prefix in
    moves_tried (take index st) s tokens said.1 false whole
    (subst (λ (b : Bool). SayJudged (take index st) s (judged_where b tokens) said.1) whole
    (said.0, said.2))
    (λ yes. rw read.profile at (c.in_ok-_used.ensures.proved prefix index s said.1 number said.3).0)
    (λ no. absurd cc)
