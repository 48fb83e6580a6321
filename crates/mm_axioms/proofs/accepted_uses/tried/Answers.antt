-- The prover judges the last statement at its index.
use Rattle.std.proofs.Common.{length, ap, ◌∙◌}
use Rattle.mm_base.specs.Statement.{PlainStatement, plain_statement}
use Rattle.mm_frame.specs.Sentence.{sentence_of}
use Rattle.mm_step.specs.Plain.{token_texts}
use Rattle.mm_step.specs.declared.profile.Profile.TheVariants.{Lenient}
use Rattle.mm_rules.proofs.Judgements.JudgedProofs.{texts_of, last_number, judged}
use Rattle.mm_axioms.proofs.AcceptedProofs.{accepts_last}
use Rattle.mm_axioms.proofs.accepted_uses.tried.Goals as goal

pub prove-requires : goal.prove-requires
prove-requires c =
    let s : PlainStatement = plain_statement c.args.statement.now in (
      length c.requires.last.before,
      sentence_of s,
      last_number c.args.prover.now.book.statements c.args.id.0 s c.requires.formed
          c.requires.last c.requires.last.before c.requires.last.whole,
    )

pub returns-clause-judged : goal.returns-clause-judged
returns-clause-judged c =
    let s : PlainStatement = plain_statement c.args.statement.now in
    let same = ap token_texts c.deref.ensures.value ∙ texts_of c.args.statement.now.proof.items in
    judged Lenient c.args.prover.now.book.statements c.args.id.0 s (token_texts c.deref.result.now)
    c.requires.formed c.requires.last same c.prove.result c.prove.new.self.used
    c.prove.ensures.incomplete c.prove.ensures.complete c.prove.ensures.proved
    c.prove.ensures.form c.prove.ensures.fault c.prove.ensures.prefix_fault

pub returns-clause-accepts : goal.returns-clause-accepts
returns-clause-accepts c =
    let s : PlainStatement = plain_statement c.args.statement.now in
    let same = ap token_texts c.deref.ensures.value ∙ texts_of c.args.statement.now.proof.items in
    accepts_last c.args.prover.now.book.statements c.args.id.0 s (token_texts c.deref.result.now)
    c.prove.result c.requires.formed c.requires.last same c.prove.ensures.accepts
