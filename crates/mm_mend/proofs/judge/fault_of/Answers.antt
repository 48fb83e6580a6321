-- What the moves of the tokens come to, the tokens come to.
use Rattle.std.proofs.Common.{ℕ, List, Err, ap, inl, inr, take}
use Rattle.std.proofs.lemmas.Result.{IfOk-weaker}
use Rattle.mm_frame.specs.Sentence.{Sentence}
use Rattle.mm_step.specs.Plain.{token_texts}
use Rattle.mm_step.specs.declared.profile.Profile.TheVariants.{Lenient}
use Rattle.mm_proof.specs.UnderProfile.{IsFaultUnder, IsProvedUnder}
use Rattle.mm_mend.proofs.JudgedChanges.{on_rule_at, rule_told}
use Rattle.mm_mend.proofs.judge.fault_of.Goals as goal

pub returns-in-Err : goal.returns-in-Err
returns-in-Err c =
    IfOk-weaker c.rule_of.result _ _
    (λ found is index s number.
    let before : List Sentence = take index c.args.book.now.statements in
    let tokens : List (List ℕ) = token_texts c.args.tokens.now in
    rule_told (IsProvedUnder Lenient before s tokens) c.in-Err.fault
    (IsFaultUnder Lenient before s tokens) found is
    (λ rule step same. inl (on_rule_at c.in-Err.fault _ c.in-Err.ensures.fault rule step same index
    s number)))
    c.rule_of.ensures

pub returns-in-Ok-verify : goal.returns-in-Ok-verify
returns-in-Ok-verify c = λ index s number.
    let read = c.in-Ok.ensures in
    let said = read.steps index s number in (
      read.form index s number,
      record {
        whole = said.0;
        moves = said.1;
        said = said.2;
        proves = rw read.profile at
            (c.in-Ok-verify.ensures.proved read.whole index s said.1 number said.3).0;
      },
    )

pub returns : goal.returns
returns c =
    IfOk-weaker c.rule_of-in-Err-verify.result _ _
    (λ found is index s number.
    let before : List Sentence = take index c.args.book.now.statements in
    let tokens : List (List ℕ) = token_texts c.args.tokens.now in
    let read = c.in-Ok.ensures in
    let said = read.steps index s number in
    rule_told (IsProvedUnder Lenient before s tokens) c.in-Err-verify.fault
    (IsFaultUnder Lenient before s tokens) found is
    (λ rule step same. inr (
      said.0,
      read.form index s number,
      said.1,
      said.2,
      rw read.profile at
          (c.in-Err-verify.ensures.fault read.whole rule step (ap Err same) index s said.1 number
          said.3),
    )))
    c.rule_of-in-Err-verify.ensures
