-- The place is that of the fault, and from there the changes are tried.
use Rattle.std.proofs.Common.{◌≡◌, false, ℕ, List, length, map, inl, inr, subst, sym, take}
use Rattle.std.proofs.lemmas.Result.{IfOk-weaker}
use Rattle.mm_base.specs.Statement.{plain_statement, PlainStatement}
use Rattle.mm_text.specs.Files.{PlainFile, plain_file}
use Rattle.mm_frame.specs.Sentence.{Sentence}
use Rattle.mm_step.specs.declared.profile.Profile.TheVariants.{Lenient}
use Rattle.mm_proof.specs.Tokens.{is_incomplete}
use Rattle.mm_proof.specs.UnderProfile.{IsFaultUnder}
use Rattle.mm_rules.specs.Verdict.{proof_of}
use Rattle.mm_facts.specs.Mirror.Explaining.{IsCauseOf}
use Rattle.mm_facts.specs.Why.{IsFaultPlace}
use Rattle.mm_explain.proofs.LoneProofs.LoneTheorems.{of_reached, reached_before, reached_fits}
use Rattle.mm_explain.proofs.LoneProofs.LoneTheorems.{reached_number}
use Rattle.mm_mend.proofs.MendedTheorems.{own_room, own_texts, proof_number}
use Rattle.mm_mend.proofs.mend.mended_reply.Goals as goal

pub cause_of-requires-clause-proof : goal.cause_of-requires-clause-proof
cause_of-requires-clause-proof c =
    proof_number (map plain_file c.args.files.now) c.args.reached.now c.requires.reached

pub cause_of-requires-clause-room : goal.cause_of-requires-clause-room
cause_of-requires-clause-room c =
    own_room (map plain_file c.args.files.now) c.args.reached.now c.requires.reached
    c.deref.result.now c.deref.ensures.value

pub cause_of-requires-clause-fault : goal.cause_of-requires-clause-fault
cause_of-requires-clause-fault c = λ index s number.
    let st : List Sentence = c.args.reached.now.book.statements in
    let texts = own_texts c.args.reached.now c.deref.result.now c.deref.ensures.value in
    inl (
      subst (λ (ts : List (List ℕ)). is_incomplete ts ≡ false) (sym texts) c.requires.complete,
      subst (λ (ts : List (List ℕ)). IsFaultUnder Lenient (take index st) s ts c.args.fault.0
          c.args.fault.1) (sym texts) (c.requires.fault index s number),
    )

pub fault_place-place-requires-clause-room : goal.fault_place-place-requires-clause-room
fault_place-place-requires-clause-room c =
    reached_fits (map plain_file c.args.files.now) c.requires.reached.0 c.args.reached.now
    c.requires.reached.1

pub fault_place-place-requires-clause-cause : goal.fault_place-place-requires-clause-cause
fault_place-place-requires-clause-cause c =
    let h = c.requires.reached.1 in (
      Lenient,
      c.args.reached.now.book.statements,
      c.args.reached.now.id.0,
      length h.before,
      c.args.fault.0,
      c.args.fault.1,
      reached_number (map plain_file c.args.files.now) c.requires.reached.0 c.args.reached.now h,
      subst
          (λ (ts : List (List ℕ)). IsCauseOf Lenient c.args.reached.now.book.statements
          c.args.reached.now.id.0 ts c.args.fault.0 c.args.fault.1 c.in_ok-cause.cause)
          (own_texts c.args.reached.now c.deref.result.now c.deref.ensures.value)
          c.in_ok-cause.ensures.cause,
    )

pub returns : goal.returns
returns c =
    let files : List PlainFile = map plain_file c.args.files.now in
    let s : PlainStatement = plain_statement c.args.reached.now.statement in
    let st : List Sentence = c.args.reached.now.book.statements in
    let rule = c.args.fault.0 in
    let step = c.args.fault.1 in
    IfOk-weaker c.mends_reply.result _ _
    (λ mended told label r.
    let place = c.fault_place-place.ensures Lenient st c.args.reached.now.id.0 (length r.before) rule
    step (reached_number files label c.args.reached.now r)
    (subst
    (λ (ts : List (List ℕ)). IsCauseOf Lenient st c.args.reached.now.id.0 ts rule step
    c.in_ok-cause.cause)
    (own_texts c.args.reached.now c.deref.result.now c.deref.ensures.value)
    c.in_ok-cause.ensures.cause) in
    inr (
      rule,
      step,
      c.fault_place-place.result,
      of_reached files label c.args.reached.now r
          (λ before t. IsFaultUnder Lenient before t (proof_of s) rule step) c.requires.fault,
      subst (λ (before : List Sentence). IsFaultPlace Lenient before s rule step
          c.fault_place-place.result) (reached_before files label c.args.reached.now r) place,
      told label r,
    ))
    c.mends_reply.ensures
