-- The moves that pass are those before the fault, or all that are known.
use Rattle.std.proofs.Common.{◌≡◌, ℕ, List, Bool, true, false, inl, inr, sym, subst, ◌∙◌}
use Rattle.std.proofs.Common.{take}
use Rattle.std.proofs.lemmas.Result.{IfOk-weaker}
use Rattle.mm_frame.specs.Sentence.{Sentence}
use Rattle.mm_step.specs.Moves.{Move}
use Rattle.mm_rules.specs.Status.{number_of}
use Rattle.mm_verdict.specs.declared.reply.Reply.{Reply}
use Rattle.mm_facts.proofs.StepPlaces.{first_pass, first_within}
use Rattle.mm_check.specs.KnownNormal.{IsBeginningReply}
use Rattle.mm_check.proofs.KnownSteps.{known_all, known_before, known_fault, known_tried}
use Rattle.mm_check.proofs.known_normal.steps_reply.Goals as goal

-- what is said of the moves that pass
abbrev SaysOf : (unfinished : Bool) → (label : List ℕ) → (ends : ℕ) → Reply → List Sentence
    → List (Move (List ℕ)) → Type 0
SaysOf unfinished label ends reply before moves =
    IsBeginningReply unfinished before moves label ends reply.text.items (number_of reply.status)

pub beginning_reply-requires-clause-within : goal.beginning_reply-requires-clause-within
beginning_reply-requires-clause-within c =
    first_within c.args.book.now.statements c.args.id.0 c.args.steps.now c.in_ok-halt.halt
    c.requires.usable c.in_ok-halt.ensures.halted

pub beginning_reply-requires-clause-pass : goal.beginning_reply-requires-clause-pass
beginning_reply-requires-clause-pass c =
    first_pass c.args.book.now.statements c.args.id.0 c.args.steps.now c.in_ok-halt.halt
    c.in_ok-halt.ensures.halted

pub returns-in-Some : goal.returns-in-Some
returns-in-Some c =
    let st : List Sentence = c.args.book.now.statements in
    IfOk-weaker c.beginning_reply.result _ _
    (λ reply told tokens said prefix index s number.
    let known = known_before st c.args.id.0 tokens c.args.steps.now c.in_ok-halt.halt said prefix
    c.requires.profile c.in_ok-halt.ensures.halted
    (SaysOf true c.args.label.now (number_of c.refusal_status-status.result) reply) told index s
    number in
    inr (inr (
      c.in-Some.rule,
      _,
      known_fault st c.args.id.0 tokens c.args.steps.now c.in_ok-halt.halt said prefix
          c.requires.profile c.in_ok-halt.ensures.halted c.in-Some.rule c.in-Some.is index s
          number,
      known.0,
      inr (known.1, known.2, known.3),
      subst (λ (ends : ℕ). SaysOf true c.args.label.now ends reply (take index st) known.0)
          c.refusal_status-status.ensures known.4,
    )))
    c.beginning_reply.ensures

pub beginning_reply-requires-in-None-clause-within : goal.beginning_reply-requires-in-None-clause-within
beginning_reply-requires-in-None-clause-within c =
    first_within c.args.book.now.statements c.args.id.0 c.args.steps.now c.in_ok-halt.halt
    c.requires.usable c.in_ok-halt.ensures.halted

pub beginning_reply-requires-in-None-clause-pass : goal.beginning_reply-requires-in-None-clause-pass
beginning_reply-requires-in-None-clause-pass c =
    first_pass c.args.book.now.statements c.args.id.0 c.args.steps.now c.in_ok-halt.halt
    c.in_ok-halt.ensures.halted

pub returns-in-None : goal.returns-in-None
returns-in-None c =
    let st : List Sentence = c.args.book.now.statements in
    let partial : c.args.steps.now.prefix ≡ true =
    sym c.is_prefix.ensures ∙ c.if-is_prefix.true in
    IfOk-weaker c.beginning_reply-in-None.result _ _
    (λ reply told tokens said prefix index s number.
    let tried = known_tried st c.args.id.0 tokens c.args.steps.now c.in_ok-halt.halt said prefix
    c.requires.profile c.in_ok-halt.ensures.halted c.in-None.is true partial index s number in
    let all = known_all st c.args.id.0 tokens c.args.steps.now c.in_ok-halt.halt said prefix
    c.requires.profile c.in_ok-halt.ensures.halted
    (SaysOf true c.args.label.now 3 reply) told c.in-None.is true partial index s number in
    inr (inl (sym prefix ∙ partial, tried.1, all.0, all.1, all.2)))
    c.beginning_reply-in-None.ensures

pub beginning_reply-requires-in-None-2-clause-within : goal.beginning_reply-requires-in-None-2-clause-within
beginning_reply-requires-in-None-2-clause-within c =
    first_within c.args.book.now.statements c.args.id.0 c.args.steps.now c.in_ok-halt.halt
    c.requires.usable c.in_ok-halt.ensures.halted

pub beginning_reply-requires-in-None-2-clause-pass : goal.beginning_reply-requires-in-None-2-clause-pass
beginning_reply-requires-in-None-2-clause-pass c =
    first_pass c.args.book.now.statements c.args.id.0 c.args.steps.now c.in_ok-halt.halt
    c.in_ok-halt.ensures.halted

pub returns : goal.returns
returns c =
    let st : List Sentence = c.args.book.now.statements in
    let whole : c.args.steps.now.prefix ≡ false =
    sym c.is_prefix.ensures ∙ c.if-is_prefix.false in
    IfOk-weaker c.beginning_reply-in-None-2.result _ _
    (λ reply told tokens said prefix index s number.
    let tried = known_tried st c.args.id.0 tokens c.args.steps.now c.in_ok-halt.halt said prefix
    c.requires.profile c.in_ok-halt.ensures.halted c.in-None-2.is false whole index s number in
    let all = known_all st c.args.id.0 tokens c.args.steps.now c.in_ok-halt.halt said prefix
    c.requires.profile c.in_ok-halt.ensures.halted
    (SaysOf false c.args.label.now 0 reply) told c.in-None-2.is false whole index s number in
    inl (sym prefix ∙ whole, tried.1, all.0, all.1, all.2))
    c.beginning_reply-in-None-2.ensures
