-- It is a place among the statement's tokens.
use Rattle.std.proofs.Common.{◌≤◌, ℕ, List, map, length, take, ap, sym, subst, ◌∙◌}
use Rattle.std.specs.List.{sum_by}
use Rattle.mm_base.specs.Token.{PlainToken, plain_token}
use Rattle.mm_base.specs.MostBytes.{most_bytes}
use Rattle.mm_base.specs.Statement.{plain_statement}
use Rattle.mm_frame.specs.Sentence.{sentence_of}
use Rattle.mm_step.specs.Plain.{token_texts}
use Rattle.mm_rules.proofs.Judgements.JudgedProofs.{texts_of}
use Rattle.mm_facts.specs.Why.{IsPlaceAmong}
use Rattle.mm_facts.specs.Mirror.Explaining.{IsCauseOf}
use Rattle.mm_facts.proofs.fault_places.fault_place.Goals as goal

pub place_among-requires-clause-room : goal.place_among-requires-clause-room
place_among-requires-clause-room c =
    let same = ap token_texts c.deref.ensures.value ∙ texts_of c.args.statement.now.proof.items in
    subst (λ (ts : List (List ℕ)). sum_by length ts ≤ most_bytes) (sym same) c.requires.room

pub place_among-requires-clause-cause : goal.place_among-requires-clause-cause
place_among-requires-clause-cause c =
    let (profile, st, id, index, rule, step, number, r) = c.requires.cause in
    let s = sentence_of (plain_statement c.args.statement.now) in
    let same = ap token_texts c.deref.ensures.value ∙ texts_of c.args.statement.now.proof.items in (
      profile,
      st,
      id,
      index,
      s,
      rule,
      step,
      number,
      subst
          (λ (ts : List (List ℕ)). IsCauseOf profile st id ts rule step c.args.cause.now)
          (sym same) r,
    )

pub returns : goal.returns
returns c = λ profile st id index rule step number r.
    let s = plain_statement c.args.statement.now in
    let same = ap token_texts c.deref.ensures.value ∙ texts_of c.args.statement.now.proof.items in
    subst
    (λ (placed : List PlainToken). IsPlaceAmong profile (take index st) (sentence_of s) placed
    s.span.1 rule step c.place_among.result)
    (ap (map plain_token) c.deref.ensures.value)
    (c.place_among.ensures profile st id index (sentence_of s) rule step number
    (subst (λ (ts : List (List ℕ)). IsCauseOf profile st id ts rule step c.args.cause.now)
    (sym same) r))
