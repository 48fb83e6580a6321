-- The moves are those that the lists were filled with.
use Rattle.std.proofs.Common.{arith}
use Rattle.std.proofs.lemmas.Result.{err_from_is_err_and}
use Rattle.mm_step.specs.Plain.{token_texts}
use Rattle.mm_proof.proofs.ProofTokens.CodeLetters.{codes_bytes}
use Rattle.mm_proof.proofs.parse.read_steps.Goals as goal

pub invariant_of-result : goal.invariant_of-result
invariant_of-result c =
    let proof = c.requires.proof in
    let st = c.args.book.now.statements in
    let said = rw (c.new-site.ensures.statements, c.new-site.ensures.number) at
    c.in_ok-fill_under.ensures.steps in
    let says = said proof.0 proof.1 proof.2 in
    let few = codes_bytes st proof.0 proof.1 (token_texts c.args.tokens.now) _ _
    c.new-site.ensures.sound.1 says in
    rw c.take_moves-entries.ensures.codes (omega (arith, few, c.requires.room), tt)

pub returns-clause-steps : goal.returns-clause-steps
returns-clause-steps c = rw (c.take_moves-entries.ensures.entries, c.take_moves-entries.ensures.codes)
    (rw (c.new-site.ensures.statements, c.new-site.ensures.number) at
    c.in_ok-fill_under.ensures.steps)

pub returns-clause-usable : goal.returns-clause-usable
returns-clause-usable c = rw (c.take_moves-entries.ensures.entries, c.take_moves-entries.ensures.codes)
    (rw (c.new-site.ensures.statements, c.new-site.ensures.number) at
    c.in_ok-fill_under.ensures.usable)

pub returns-in_err-fill_under-clause-fault : goal.returns-in_err-fill_under-clause-fault
returns-in_err-fill_under-clause-fault c =
    let p = err_from_is_err_and c.from_residual.result c.from_residual.ensures.1 in
    rw (p.1, p.2) (rw (c.new-site.ensures.statements, c.new-site.ensures.number) at
    c.in_err-fill_under.ensures.fault)

pub returns-clause-form : goal.returns-clause-form
returns-clause-form c = rw (c.new-site.ensures.statements, c.new-site.ensures.number) at
    c.in_ok-fill_under.ensures.form
