-- The tokens are a proof; or there are none.
use Rattle.std.proofs.Common.{◌∙◌, ℕ, List, ap, sym, subst, take}
use Rattle.std.proofs.lemmas.Bool.{false≢true}
use Rattle.std.proofs.lemmas.Result.{IfOk-weaker}
use Rattle.mm_frame.specs.Sentence.{Sentence}
use Rattle.mm_step.specs.Plain.{token_texts}
use Rattle.mm_step.specs.declared.profile.Profile.TheVariants.{Lenient}
use Rattle.mm_proof.specs.UnderProfile.{IsProvedUnder}
use Rattle.mm_mend.proofs.JudgedChanges.{no_tokens}
use Rattle.mm_mend.proofs.judge.is_proof_text.Goals as goal

pub returns-in-Ok : goal.returns-in-Ok
returns-in-Ok c =
    let same = ap token_texts c.deref.ensures.value ∙ c.in-Ok.ensures.tokens in
    IfOk-weaker c.is_proof.result _ _
    (λ yes told index s number.
    let before : List Sentence = take index c.args.book.now.statements in
    let both = told index s number in (
      (λ is. (
        c.in-Ok.ensures.legal,
        subst (λ (ts : List (List ℕ)). IsProvedUnder Lenient before s ts) same (both.0 is),
      )),
      λ has. both.1
          (subst (λ (ts : List (List ℕ)). IsProvedUnder Lenient before s ts) (sym same) has.1),
    ))
    c.is_proof.ensures

pub returns-in-Err : goal.returns-in-Err
returns-in-Err c =
    IfOk-weaker c.no_proof.result _ _
    (λ yes told index s number. (
      (λ is. absurd (false≢true (sym told.0 ∙ is))),
      λ has. absurd (no_tokens c.args.text.now c.in-Err.why c.in-Err.ensures.fault told.1 has.0),
    ))
    c.no_proof.ensures
