-- The proof breaks no rule over the whole of it.
use Rattle.std.proofs.Common.{Err, ap, ◌∙◌}
use Rattle.mm_step.specs.Plain.{token_texts}
use Rattle.mm_verdict.proofs.Questions.AskedTheorems.{no_text_fault}
use Rattle.mm_rules.proofs.Judgements.JudgedProofs.{texts_of}
use Rattle.mm_verdict.proofs.theorem.read_steps.Goals as goal

pub read-requires-clause-room : goal.read-requires-clause-room
read-requires-clause-room c =
    let same = ap token_texts c.deref.ensures.value ∙ texts_of c.args.statement.now.proof.items in
    rw same c.requires.room

pub unreachable-requires : goal.unreachable-requires
unreachable-requires c =
    let same = ap token_texts c.deref.ensures.value ∙ texts_of c.args.statement.now.proof.items in
    let proof = c.requires.proof in
    let fault = rw (same, c.in-Err-Rule.is ∙ ap Err c.in-Err-Rule.field-0-is) at
    c.read.ensures.fault in
    no_text_fault _ _ _ _ c.in-Err-Rule.field-0-0 proof.proved
    (fault proof.index proof.s proof.number).1

pub returns-in-Ok-clause-said : goal.returns-in-Ok-clause-said
returns-in-Ok-clause-said c =
    let same = ap token_texts c.deref.ensures.value ∙ texts_of c.args.statement.now.proof.items in
    rw (same, c.in-Ok.is) at c.read.ensures.steps
