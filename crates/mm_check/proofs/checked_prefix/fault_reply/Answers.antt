-- The lines, the refusal and the facts are those of the fault.
use Rattle.std.proofs.Common.{ℕ, ◌≤◌, List, length, map, ap, ◌∙◌, ◌++◌, ◌≡◌, subst}
use Rattle.std.specs.List.{sum_by}
use Rattle.mm_base.specs.MostBytes.{most_bytes}
use Rattle.mm_step.specs.Plain.{token_texts}
use Rattle.mm_base.specs.Token.{PlainToken, plain_token}
use Rattle.mm_text.specs.Files.{plain_file, PlainFile}
use Rattle.mm_rules.proofs.Judgements.JudgedProofs.{texts_of}
use Rattle.mm_base.specs.Statement.{plain_statement, PlainStatement}
use Rattle.mm_frame.specs.Sentence.{Sentence, sentence_of}
use Rattle.mm_step.specs.declared.profile.Profile.TheVariants.{Lenient}
use Rattle.mm_rules.specs.declared.rule.Rule.TheVariants as rules
use Rattle.mm_check.specs.Alone.{AreStepsBefore}
use Rattle.mm_rules.specs.Answer.{plain_refusal}
use Rattle.mm_facts.specs.Explained.{AreDetails, Detail, details_text, IsTokensFault}
use Rattle.mm_verdict.specs.Reply.{text_of}
use Rattle.mm_rules.specs.Verdict.{PlainRefusal, Refused, refusal_of, sentences}
use Rattle.mm_facts.specs.Why.{IsFaultPlace}
use Rattle.mm_facts.specs.Mirror.Explaining.{IsCauseOf}
use Rattle.mm_explain.specs.Why.{head_text}
use Rattle.mm_explain.proofs.LoneProofs.LoneTheorems.{of_reached, reached_before, reached_few}
use Rattle.mm_explain.proofs.LoneProofs.LoneTheorems.{reached_number}
use Rattle.mm_check.proofs.KnownSteps.{reached_proof}
use Rattle.mm_check.proofs.checked_prefix.fault_reply.Goals as goal

pub refusal-refusal-requires : goal.refusal-refusal-requires
refusal-refusal-requires c =
    reached_few (map plain_file c.args.files.now) c.requires.reached.0 c.args.reached.now
    c.requires.reached.1

pub cause_of-requires-clause-proof : goal.cause_of-requires-clause-proof
cause_of-requires-clause-proof c =
    reached_proof (map plain_file c.args.files.now) c.args.reached.now c.requires.reached

pub fault_place-at-requires-clause-room : goal.fault_place-at-requires-clause-room
fault_place-at-requires-clause-room c =
    subst (λ (ts : List (List ℕ)). sum_by length ts ≤ most_bytes) c.requires.tokens c.requires.room

pub fault_place-at-requires-clause-cause : goal.fault_place-at-requires-clause-cause
fault_place-at-requires-clause-cause c =
    let h = c.requires.reached.1 in (
      Lenient,
      c.args.reached.now.book.statements,
      c.args.reached.now.id.0,
      length h.before,
      c.args.fault.0,
      c.args.fault.1,
      reached_number (map plain_file c.args.files.now) c.requires.reached.0 c.args.reached.now h,
      subst
          (λ (ts : List (List ℕ)). IsCauseOf Lenient c.args.reached.now.book.statements
          c.args.reached.now.id.0 ts c.args.fault.0 c.args.fault.1 c.in_ok-cause.cause)
          c.requires.tokens c.in_ok-cause.ensures.cause,
    )

pub push_cause-requires-clause-proof : goal.push_cause-requires-clause-proof
push_cause-requires-clause-proof c =
    reached_proof (map plain_file c.args.files.now) c.args.reached.now c.requires.reached

pub push_cause-requires-clause-cause : goal.push_cause-requires-clause-cause
push_cause-requires-clause-cause c =
    (token_texts c.args.tokens.now, c.args.fault.1, c.in_ok-cause.ensures.cause)

pub returns : goal.returns
returns c = λ telling shown label r.
    let files : List PlainFile = map plain_file c.args.files.now in
    let st = c.args.reached.now.book.statements in
    let s : PlainStatement = plain_statement c.args.reached.now.statement in
    let tokens : List (List ℕ) = token_texts c.args.tokens.now in
    let placed : List PlainToken = map plain_token c.args.tokens.now in
    let rule = c.args.fault.0 in
    let step = c.args.fault.1 in
    let mine = reached_number files label c.args.reached.now r in
    let told = of_reached files label c.args.reached.now r
    (λ before s. (details : List Detail) × AreDetails files Lenient before s placed rule step details
    × (c.push_cause.new.out.items ≡ c.push_head.new.out.items ++ details_text details))
    (c.in_ok-push_cause.ensures files placed step
    (subst
    (λ (ts : List (List ℕ)). IsCauseOf Lenient st c.args.reached.now.id.0 ts rule step
    c.in_ok-cause.cause)
    (texts_of c.args.tokens.now) c.in_ok-cause.ensures.cause)
    c.in_ok-cause.ensures.told) in
    let place = c.fault_place-at.ensures Lenient st c.args.reached.now.id.0 (length r.before) rule step
    mine
    (subst
    (λ (ts : List (List ℕ)). IsCauseOf Lenient st c.args.reached.now.id.0 ts rule step
    c.in_ok-cause.cause)
    c.requires.tokens c.in_ok-cause.ensures.cause) in
    let one : plain_refusal c.refusal-refusal.result
    ≡ refusal_of files (length r.before) s (rules.Proof rule) step =
    c.refusal-refusal.ensures.told
    ∙ ap (λ (fs : List PlainFile). refusal_of fs c.args.reached.now.before s
    (rules.Proof rule) step) c.new-counted.ensures
    ∙ ap (λ (n : ℕ). refusal_of files n s (rules.Proof rule) step) r.count in
    record {
      rule = rule;
      step = step;
      fault = rw c.requires.tokens at (of_reached files label c.args.reached.now r
          (λ before s. IsTokensFault Lenient before s tokens rule step) c.requires.fault);
      lines = c.args.lines.items;
      shown = subst
          (λ (ts : List PlainToken). AreStepsBefore telling files (sentences r.before) (sentence_of s)
          ts step c.args.lines.items)
          c.requires.placed
          (of_reached files label c.args.reached.now r
          (λ before s. AreStepsBefore telling files before s placed step c.args.lines.items) shown);
      details = told.0;
      explained = subst
          (λ (ts : List PlainToken). AreDetails files Lenient (sentences r.before) (sentence_of s) ts
          rule step told.0)
          c.requires.placed told.1;
      at = c.fault_place-at.result;
      place = subst
          (λ (before : List Sentence). IsFaultPlace Lenient before s rule step c.fault_place-at.result)
          (reached_before files label c.args.reached.now r) place;
      said = told.2
          ∙ ap (λ (first : List ℕ). first ++ details_text told.0)
          (c.in_ok-push_head.ensures
          ∙ ap (λ (first : List ℕ). first ++ head_text files c.fault_place-at.result
          (plain_refusal c.refusal-refusal.result)) c.in_ok-push_refusal.ensures
          ∙ ap (λ (refusal : PlainRefusal). c.args.lines.items ++ text_of files (Refused refusal)
          ++ head_text files c.fault_place-at.result refusal) one);
      ends = c.refusal_status.ensures;
    }
