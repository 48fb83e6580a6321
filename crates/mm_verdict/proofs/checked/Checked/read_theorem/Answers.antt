-- What is read again under the label is the theorem.
use Rattle.std.proofs.Common.{◌≡◌, ℕ, List, map, true, None, sym, ap, subst}
use Rattle.std.proofs.lemmas.Result.{IfOk-weaker}
use Rattle.mm_base.specs.Statement.{PlainStatement, plain_statement}
use Rattle.mm_text.specs.Files.{plain_file}
use Rattle.mm_text.specs.Reading.{Reads}
use Rattle.mm_rules.specs.Conclusion.{Conclusion}
use Rattle.mm_verdict.specs.declared.theorem.Theorem.{Theorem}
use Rattle.mm_rules.specs.Verdict.{CanBeRead, is_proof, proof_of, sentences}
use Rattle.mm_rules.specs.Rests.{IsNamed}
use Rattle.mm_verdict.specs.Mirror.Theorems.{SayStepsOf, AreStepsOf}
use Rattle.mm_base.proofs.Lists.{error_keeps}
use Rattle.mm_verdict.proofs.Verdicts.AcceptedStatements.{AreOf, own_statements, read_statements}
use Rattle.mm_verdict.proofs.Verdicts.AcceptedStatements.{shown_proof, proof_fits, theorem_steps}
use Rattle.mm_verdict.proofs.Verdicts.AcceptedStatements.{KeptWell}
use Rattle.mm_verdict.specs.Mirror.Rewriting.{IsHomeOf}
use Rattle.mm_frame.specs.Rules.{AllMeant}
use Rattle.mm_verdict.proofs.ReplyTexts.{made_both}
use Rattle.mm_verdict.proofs.FileBytes.StatementsInFiles.{home_of}
use Rattle.mm_verdict.proofs.checked.Checked.read_theorem.Goals as goal

pub returns-in_err-id-clause-fault : goal.returns-in_err-id-clause-fault
returns-in_err-id-clause-fault c =
    let well = subst KeptWell c.self.view_is c.self.invariant in
    error_keeps c.from_residual.result c.in_err-id.field-0.0 _ c.from_residual.ensures.1
    (λ statements reads. c.in_err-id.ensures.fault statements
    (read_statements c.args.self.now statements well.origin reads).kept)

pub reread-requires-clause-readable : goal.reread-requires-clause-readable
reread-requires-clause-readable c =
    let well = subst KeptWell c.self.view_is c.self.invariant in
    subst CanBeRead (sym (ap (λ (v : Conclusion). v.files) c.self.view_is))
    well.origin.accepted.readable

pub reread-requires-clause-stands : goal.reread-requires-clause-stands
reread-requires-clause-stands c =
    let now : Conclusion = c.args.self.now in
    let well = subst KeptWell c.self.view_is c.self.invariant in
    let files : map plain_file c.self.inside.files.now ≡ now.files = ap (λ (v : Conclusion). v.files) c.self.view_is in
    let own : AreOf now well.origin.statements = own_statements now well.origin in
    let (index, s, at, both) = c.in_ok-id.ensures.found well.origin.statements own.kept in
    (well.origin.statements, s, rw files own.accepted.reads, (index, at.there, both.0))

pub read_theorem-requires-clause-proof : goal.read_theorem-requires-clause-proof
read_theorem-requires-clause-proof c =
    let now : Conclusion = c.args.self.now in
    let well = subst KeptWell c.self.view_is c.self.invariant in
    let files : map plain_file c.self.inside.files.now ≡ now.files = ap (λ (v : Conclusion). v.files) c.self.view_is in
    let own : AreOf now well.origin.statements = own_statements now well.origin in
    let named = c.in_ok-id.ensures.found well.origin.statements own.kept in
    let t : PlainStatement = plain_statement c.in_ok-statement.statement in
    let stands = c.in_ok-statement.ensures.found well.origin.statements (rw files own.accepted.reads) in
    let sentences : c.self.inside.book.statements ≡ now.sentences = ap (λ (v : Conclusion). v.sentences) c.self.view_is in
    let id : ℕ = c.in_ok-id.id.0 in
    let under : c.self.inside.profile ≡ now.profile = ap (λ (v : Conclusion). v.profile) c.self.view_is in
    rw (under, sentences)
    (shown_proof now well.origin.statements c.args.label.now id t own c.theorem.ensures.sound.0 named stands)

pub read_theorem-requires-clause-room : goal.read_theorem-requires-clause-room
read_theorem-requires-clause-room c =
    let now : Conclusion = c.args.self.now in
    let well = subst KeptWell c.self.view_is c.self.invariant in
    let files : map plain_file c.self.inside.files.now ≡ now.files = ap (λ (v : Conclusion). v.files) c.self.view_is in
    let own : AreOf now well.origin.statements = own_statements now well.origin in
    let t : PlainStatement = plain_statement c.in_ok-statement.statement in
    let stands = c.in_ok-statement.ensures.found well.origin.statements (rw files own.accepted.reads) in
    proof_fits now.files well.origin.statements None stands.0 t own.accepted.readable
    own.accepted.reads stands.1

pub returns-clause-read : goal.returns-clause-read
returns-clause-read c =
    let now : Conclusion = c.args.self.now in
    let well = subst KeptWell c.self.view_is c.self.invariant in
    let files : map plain_file c.self.inside.files.now ≡ now.files = ap (λ (v : Conclusion). v.files) c.self.view_is in
    let told : c.self.inside.book.statements ≡ now.sentences = ap (λ (v : Conclusion). v.sentences) c.self.view_is in
    let id : ℕ = c.in_ok-id.id.0 in
    let t : PlainStatement = plain_statement c.in_ok-statement.statement in
    made_both c.read_theorem.result
    (λ (theorem : Theorem). theorem.id.0 ≡ id)
    (λ (theorem : Theorem). SayStepsOf c.self.inside.book.statements theorem.id.0 (proof_of t) theorem.steps.moves)
    (λ (theorem : Theorem). (statements : List PlainStatement) → Reads now.files statements None
    → (now.sentences ≡ sentences statements) × AreStepsOf statements c.args.label.now theorem.id.0 theorem.steps.moves)
    (λ theorem same said statements reads.
    let of : AreOf now statements = read_statements now statements well.origin reads in
    let stands = c.in_ok-statement.ensures.found statements (rw files reads) in
    let named : IsNamed statements c.args.label.now (λ s. is_proof s ≡ true) theorem.id.0 =
    subst (λ (n : ℕ). IsNamed statements c.args.label.now (λ s. is_proof s ≡ true) n) (sym same) (c.in_ok-id.ensures.found statements of.kept) in (
      of.kept.sentences,
      theorem_steps now statements c.args.label.now theorem.id.0 t theorem.steps.moves of c.theorem.ensures.sound.0 named stands
          (rw told at said),
    ))
    c.read_theorem.ensures.id c.read_theorem.ensures.said

pub returns-clause-theorem : goal.returns-clause-theorem
returns-clause-theorem c =
    rw (ap (λ (v : Conclusion). v.sentences) c.self.view_is) at c.read_theorem.ensures.theorem

pub returns-clause-home : goal.returns-clause-home
returns-clause-home c =
    let now : Conclusion = c.args.self.now in
    let well = subst KeptWell c.self.view_is c.self.invariant in
    let files : map plain_file c.self.inside.files.now ≡ now.files = ap (λ (v : Conclusion). v.files) c.self.view_is in
    let t : PlainStatement = plain_statement c.in_ok-statement.statement in
    IfOk-weaker c.read_theorem.result
    (λ (theorem : Theorem). (theorem.file ≡ t.first.file) × (theorem.span ≡ t.span))
    (λ (theorem : Theorem). (statements : List PlainStatement) → Reads now.files statements None → IsHomeOf statements c.args.label.now theorem.file theorem.span)
    (λ theorem both statements reads.
    let of : AreOf now statements = read_statements now statements well.origin reads in
    let meant : AllMeant (sentences statements) = subst AllMeant of.kept.sentences c.theorem.ensures.sound.0 in
    let stands = c.in_ok-statement.ensures.found statements (rw files reads) in
    home_of statements c.args.label.now t theorem.file theorem.span meant stands both.0 both.1)
    c.read_theorem.ensures.home
