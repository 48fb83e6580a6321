-- The line tells the fault, and what follows explains it: its place, and the facts.
use Rattle.std.proofs.Common.{ℕ, List, [], map}
use Rattle.std.proofs.Common.{◌∷◌, ◌++◌, None, ap, subst, take, ◌∙◌}
use Rattle.mm_base.specs.Token.{PlainToken, plain_token}
use Rattle.mm_text.specs.Files.{PlainFile, plain_file}
use Rattle.mm_step.specs.Plain.{token_texts}
use Rattle.mm_frame.specs.Sentence.{Sentence}
use Rattle.mm_step.specs.declared.profile.Profile.TheVariants.{Lenient}
use Rattle.mm_rules.specs.declared.rule.Rule.TheVariants as rules
use Rattle.mm_facts.specs.Explained.{AreDetails, IsTokensFault, details_text}
use Rattle.mm_facts.specs.Why.{IsPlaceAmong}
use Rattle.mm_facts.specs.Mirror.Explaining.{IsCauseOf}
use Rattle.mm_rules.proofs.Judgements.JudgedProofs.{texts_of}
use Rattle.mm_rules.specs.ProofText.{proof_end}
use Rattle.mm_explain.specs.Why.{head_at}
use Rattle.mm_explain.proofs.trial.fault_reply.Goals as goal

pub place_among-at-requires-clause-cause : goal.place_among-at-requires-clause-cause
place_among-at-requires-clause-cause c =
    let (index, s, number) = c.requires.proof in (
      Lenient,
      c.args.book.now.statements,
      c.args.id.0,
      index,
      s,
      c.args.fault.0,
      c.args.fault.1,
      number,
      c.in_ok-cause.ensures.cause,
    )

pub push_cause-requires-clause-cause : goal.push_cause-requires-clause-cause
push_cause-requires-clause-cause c =
    (token_texts c.args.tokens.now, c.args.fault.1, c.in_ok-cause.ensures.cause)

pub returns : goal.returns
returns c = λ index s number.
    let st : List Sentence = c.args.book.now.statements in
    let proof : PlainFile = plain_file c.args.proof.now in
    let rule = c.args.fault.0 in
    let step = c.args.fault.1 in
    let tokens : List PlainToken = map plain_token c.args.tokens.now in
    let head = head_at (proof ∷ []) 0 c.place_among-at.result (rules.Proof rule) None step in
    let told = c.in_ok-push_cause.ensures (proof ∷ []) tokens step
    (subst
    (λ (ts : List (List ℕ)). IsCauseOf Lenient st c.args.id.0 ts rule step c.in_ok-cause.cause)
    (texts_of c.args.tokens.now) c.in_ok-cause.ensures.cause)
    c.in_ok-cause.ensures.told index s number in
    record {
      rule = rule;
      step = step;
      fault = subst (λ (ts : List (List ℕ)). IsTokensFault Lenient (take index st) s ts rule step)
          c.requires.tokens (c.requires.fault index s number);
      line = c.in_ok-text.text.items;
      told = (c.in_ok-text.ensures, c.text_status.ensures);
      at = c.place_among-at.result;
      place = subst
          (λ (tokens : List PlainToken). IsPlaceAmong Lenient (take index st) s tokens
          (proof_end proof.bytes) rule step c.place_among-at.result)
          c.requires.places
          (subst
          (λ (end : ℕ). IsPlaceAmong Lenient (take index st) s tokens end rule step
          c.place_among-at.result)
          c.requires.end
          (c.place_among-at.ensures Lenient st c.args.id.0 index s rule step number
          c.in_ok-cause.ensures.cause));
      details = told.0;
      explained = subst
          (λ (ts : List PlainToken). AreDetails (proof ∷ []) Lenient (take index st) s ts rule step
          told.0)
          c.requires.places told.1;
      said = told.2
          ∙ ap (λ (lines : List ℕ). lines ++ details_text told.0) c.in_ok-push_head_at.ensures;
    }
