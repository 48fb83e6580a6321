-- Where the steps stop, the proof or what is known of it has its fault; or none is found.
use Rattle.std.proofs.Common.{◌≡◌, ℕ, List, arith, map, true, false, inl, inr, refl, sym}
use Rattle.std.proofs.Common.{◌∙◌}
use Rattle.std.proofs.lemmas.Result.{IfOk-weaker}
use Rattle.mm_step.specs.Plain.{token_texts}
use Rattle.mm_base.specs.Token.{PlainToken, plain_token}
use Rattle.mm_text.specs.Files.{PlainFile, plain_file}
use Rattle.mm_frame.specs.Sentence.{Sentence}
use Rattle.mm_explain.specs.Mirror.Reached.{AreTried}
use Rattle.mm_proof.specs.declared.prover.Proved.TheVariants.{Complete}
use Rattle.mm_check.specs.Reply.{IsCheckedPrefix}
use Rattle.mm_check.specs.Told.{TellsMoves}
use Rattle.mm_rules.proofs.Judgements.JudgedProofs.{texts_of as placed_texts}
use Rattle.mm_rules.specs.Status.{number_of}
use Rattle.mm_check.proofs.KnownSteps.{known_fault, reached_proof}
use Rattle.mm_check.proofs.KnownSteps.{known_listed, known_shown, known_tried}
use Rattle.mm_facts.proofs.StepPlaces.{first_pass, first_within}
use Rattle.mm_explain.proofs.LoneProofs.LoneTheorems.{of_reached}
use Rattle.mm_check.proofs.checked_prefix.steps_reply.Goals as goal

pub told_before-requires-clause-proof : goal.told_before-requires-clause-proof
told_before-requires-clause-proof c =
    reached_proof (map plain_file c.args.files.now) c.args.reached.now c.requires.reached

pub told_before-requires-clause-within : goal.told_before-requires-clause-within
told_before-requires-clause-within c =
    first_within c.args.reached.now.book.statements c.args.reached.now.id.0 c.args.steps.now
    c.in_ok-halt.halt c.requires.usable c.in_ok-halt.ensures.halted

pub told_before-requires-clause-pass : goal.told_before-requires-clause-pass
told_before-requires-clause-pass c =
    first_pass c.args.reached.now.book.statements c.args.reached.now.id.0 c.args.steps.now
    c.in_ok-halt.halt c.in_ok-halt.ensures.halted

pub overflow_add-fault : goal.overflow_add-fault
overflow_add-fault c = omega (arith, c.in_ok-halt.halt.few)

pub fault_reply-requires-clause-fault : goal.fault_reply-requires-clause-fault
fault_reply-requires-clause-fault c =
    known_fault c.args.reached.now.book.statements c.args.reached.now.id.0 (token_texts c.args.tokens.now)
    c.args.steps.now c.in_ok-halt.halt c.requires.said c.requires.prefix c.requires.profile
    c.in_ok-halt.ensures.halted c.in-Some.rule c.in-Some.is

pub returns-in-Some : goal.returns-in-Some
returns-in-Some c =
    let st : List Sentence = c.args.reached.now.book.statements in
    let files : List PlainFile = map plain_file c.args.files.now in
    let placed : List PlainToken = map plain_token c.args.tokens.now in
    let shown = known_shown st c.args.reached.now.id.0 (token_texts c.args.tokens.now)
    c.args.steps.now c.in_ok-halt.halt c.requires.said c.requires.prefix c.requires.profile
    c.in_ok-halt.ensures.halted c.args.telling files placed (placed_texts c.args.tokens.now)
    c.in_ok-lines.lines.items c.in_ok-lines.ensures in
    IfOk-weaker c.fault_reply.result _ _
    (λ reply told label r. inr (inr (told c.args.telling shown label r))) c.fault_reply.ensures

pub prefix_reply-requires-clause-allowed : goal.prefix_reply-requires-clause-allowed
prefix_reply-requires-clause-allowed c = λ index s number.
    let prefix : c.args.steps.now.prefix ≡ true = sym c.is_prefix.ensures ∙ c.if-is_prefix.true in
    (known_tried c.args.reached.now.book.statements c.args.reached.now.id.0
    (token_texts c.args.tokens.now) c.args.steps.now c.in_ok-halt.halt c.requires.said
    c.requires.prefix c.requires.profile c.in_ok-halt.ensures.halted c.in-None.is true prefix index s number).1

pub returns-in-None : goal.returns-in-None
returns-in-None c =
    let st : List Sentence = c.args.reached.now.book.statements in
    let files : List PlainFile = map plain_file c.args.files.now in
    let placed : List PlainToken = map plain_token c.args.tokens.now in
    let prefix : c.args.steps.now.prefix ≡ true = sym c.is_prefix.ensures ∙ c.if-is_prefix.true in
    let shown = known_listed st c.args.reached.now.id.0 (token_texts c.args.tokens.now)
    c.args.steps.now c.in_ok-halt.halt c.requires.said c.requires.prefix c.requires.profile
    c.in_ok-halt.ensures.halted c.args.telling files placed (placed_texts c.args.tokens.now)
    c.in_ok-lines.lines.items c.in_ok-lines.ensures
    c.in-None.is true prefix in
    IfOk-weaker c.prefix_reply.result _ _
    (λ reply told label r. inr (inl (rw c.requires.placed at (of_reached files label
    c.args.reached.now r
    (λ before s. IsCheckedPrefix c.args.telling files before s placed reply.text.items
    (number_of reply.status))
    (told c.args.telling shown)))))
    c.prefix_reply.ensures

pub returns : goal.returns
returns c = λ label r.
    let st : List Sentence = c.args.reached.now.book.statements in
    let files : List PlainFile = map plain_file c.args.files.now in
    let placed : List PlainToken = map plain_token c.args.tokens.now in
    let tokens : List (List ℕ) = token_texts c.args.tokens.now in
    let whole : c.args.steps.now.prefix ≡ false = sym c.is_prefix.ensures ∙ c.if-is_prefix.false in
    let tried = rw c.requires.tokens at (of_reached files label c.args.reached.now r
    (λ before s. AreTried before s tokens Complete)
    (known_tried st c.args.reached.now.id.0 tokens c.args.steps.now c.in_ok-halt.halt
    c.requires.said c.requires.prefix c.requires.profile c.in_ok-halt.ensures.halted
    c.in-None-2.is false whole)) in
    let listed = rw (c.requires.tokens, c.requires.placed) at (of_reached files label
    c.args.reached.now r
    (λ before s. TellsMoves c.args.telling files before s placed tokens c.in_ok-lines.lines.items)
    (known_listed st c.args.reached.now.id.0 tokens c.args.steps.now c.in_ok-halt.halt
    c.requires.said c.requires.prefix c.requires.profile c.in_ok-halt.ensures.halted
    c.args.telling files placed (placed_texts c.args.tokens.now) c.in_ok-lines.lines.items
    c.in_ok-lines.ensures c.in-None-2.is false whole)) in
    inl (tried.0, tried.1, listed, refl)
