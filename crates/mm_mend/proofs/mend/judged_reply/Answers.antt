-- Its proof has a first fault, or none.
use Rattle.std.proofs.Common.{ℕ, List, map, inl, refl, subst, take}
use Rattle.mm_base.specs.Statement.{plain_statement, PlainStatement}
use Rattle.mm_text.specs.Files.{PlainFile, plain_file}
use Rattle.mm_frame.specs.Sentence.{Sentence}
use Rattle.mm_step.specs.declared.profile.Profile.TheVariants.{Lenient}
use Rattle.mm_proof.specs.UnderProfile.{IsFaultUnder, IsProvedUnder}
use Rattle.mm_rules.specs.Verdict.{proof_of}
use Rattle.mm_explain.proofs.LoneProofs.LoneTheorems.{of_reached}
use Rattle.mm_mend.proofs.MendedTheorems.{own_room, own_texts, proof_number}
use Rattle.mm_mend.proofs.mend.judged_reply.Goals as goal

pub fault_of-requires-clause-proof : goal.fault_of-requires-clause-proof
fault_of-requires-clause-proof c =
    proof_number (map plain_file c.args.files.now) c.args.reached.now c.requires.reached

pub fault_of-requires-clause-room : goal.fault_of-requires-clause-room
fault_of-requires-clause-room c =
    own_room (map plain_file c.args.files.now) c.args.reached.now c.requires.reached
    c.deref.result.now c.deref.ensures.value

pub mended_reply-requires-clause-fault : goal.mended_reply-requires-clause-fault
mended_reply-requires-clause-fault c = λ index s number.
    let st : List Sentence = c.args.reached.now.book.statements in
    let texts = own_texts c.args.reached.now c.deref.result.now c.deref.ensures.value in
    subst (λ (ts : List (List ℕ)). IsFaultUnder Lenient (take index st) s ts c.in-Some.fault.0
    c.in-Some.fault.1) texts
    (rw c.in-Some.is at (c.in_ok-found.ensures index s number))

pub returns-in_ok-from_slice-in-None : goal.returns-in_ok-from_slice-in-None
returns-in_ok-from_slice-in-None c = λ label r.
    let files : List PlainFile = map plain_file c.args.files.now in
    let st : List Sentence = c.args.reached.now.book.statements in
    let s : PlainStatement = plain_statement c.args.reached.now.statement in
    let texts = own_texts c.args.reached.now c.deref.result.now c.deref.ensures.value in
    inl (
      of_reached files label c.args.reached.now r
          (λ before t. IsProvedUnder Lenient before t (proof_of s))
          (λ index t number.
          subst (λ (ts : List (List ℕ)). IsProvedUnder Lenient (take index st) t ts) texts
          (rw c.in-None.is at (c.in_ok-found.ensures index t number))),
      c.in_ok-from_slice-in-None.ensures.items,
      refl,
      c.new.ensures.items,
    )
