-- What is told of the steps is told of the theorem.
use Rattle.std.proofs.Common.{ℕ, List, refl}
use Rattle.std.proofs.lemmas.Result.{IfOk-weaker}
use Rattle.mm_base.specs.Statement.{PlainStatement, plain_statement}
use Rattle.mm_frame.specs.Sentence.{Sentence}
use Rattle.mm_rules.specs.Verdict.{proof_of}
use Rattle.mm_verdict.proofs.Questions.AskedTheorems.{why}
use Rattle.mm_save.proofs.Saving.WrittenFiles.{label_there, proof_among, theorem_replaced}
use Rattle.mm_save.proofs.Saving.WrittenFiles.{theorem_fault}
use Rattle.mm_save.proofs.save_all.text_of.Goals as goal

pub read_theorem-requires-clause-proof : goal.read_theorem-requires-clause-proof
read_theorem-requires-clause-proof c =
    proof_among c.args.book.now.statements (plain_statement c.args.statement.now) c.args.id.0
    (proof_of (plain_statement c.args.statement.now)) c.requires.theorem refl

pub returns-clause-text : goal.returns-clause-text
returns-clause-text c =
    let s : PlainStatement = plain_statement c.args.statement.now in
    let told : List Sentence = c.args.book.now.statements in
    let id : ℕ = c.args.id.0 in
    let said = rw c.in_ok-theorem.ensures.id at c.in_ok-theorem.ensures.said in
    let proved = rw c.in_ok-theorem.ensures.id at c.in_ok-theorem.ensures.theorem.1 in
    let (label, named) = label_there s c.requires.formed c.requires.theorem.number.provable in
    IfOk-weaker c.span_text.result _ _
    (λ put laid bytes t stands. theorem_replaced c.args.form told s label id
    c.in_ok-theorem.theorem.steps c.args.old.now put.items bytes t named said proved
    (rw c.in_ok-theorem.ensures.id at laid) stands)
    c.span_text.ensures.put

pub returns-clause-fault : goal.returns-clause-fault
returns-clause-fault c =
    let s : PlainStatement = plain_statement c.args.statement.now in
    let told : List Sentence = c.args.book.now.statements in
    let said = rw c.in_ok-theorem.ensures.id at c.in_ok-theorem.ensures.said in
    let proved = rw c.in_ok-theorem.ensures.id at c.in_ok-theorem.ensures.theorem.1 in
    why c.span_text.result _ _
    (λ fault is. theorem_fault c.args.form told s c.args.id.0 c.in_ok-theorem.theorem.steps fault
    said proved (rw c.in_ok-theorem.ensures.id at is))
    c.span_text.ensures.fault
