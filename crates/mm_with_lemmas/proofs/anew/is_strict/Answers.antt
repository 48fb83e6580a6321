-- By the number of the theorem.
use Rattle.std.proofs.Common.{ℕ, List, take, length, ap, subst, ◌∙◌}
use Rattle.mm_base.specs.Statement.{PlainStatement, plain_statement}
use Rattle.mm_frame.specs.Sentence.{Sentence, sentence_of}
use Rattle.mm_proof.specs.Parsed.{OfProof}
use Rattle.mm_proof.specs.Strict.{HasFormOf}
use Rattle.mm_rules.proofs.Judgements.JudgedProofs.{texts_of}
use Rattle.mm_step.specs.Plain.{token_texts}
use Rattle.mm_step.specs.declared.profile.Profile.TheVariants.{Strict}
use Rattle.mm_with_lemmas.proofs.ProofsAnew.{strict_there, theorem_number}
use Rattle.mm_with_lemmas.proofs.anew.is_strict.Goals as goal

pub read-requires-clause-proof : goal.read-requires-clause-proof
read-requires-clause-proof c =
    let s : PlainStatement = plain_statement c.args.statement.now in
    let before : List PlainStatement = c.requires.next.0 in (
      length before,
      sentence_of s,
      theorem_number c.args.book.now.statements c.args.id.0 before s c.requires.next.1
          c.requires.theorem,
    )

pub returns-in-Ok : goal.returns-in-Ok
returns-in-Ok c = λ t before next.
    let told : List Sentence = c.args.book.now.statements in
    let same = ap token_texts c.deref.ensures.value ∙ texts_of c.args.statement.now.proof.items in
    strict_there told c.args.id.0 before (plain_statement c.args.statement.now) next
    c.requires.theorem
    (subst (λ (ts : List (List ℕ)). OfProof told c.args.id.0 (λ index u.
    HasFormOf Strict (take index told) u ts)) same c.in-Ok.ensures.form)
