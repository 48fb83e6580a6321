-- What is read again is the theorem, which was judged.
use Rattle.std.proofs.Common.{◌≡◌, ℕ, List, None, ap, subst}
use Rattle.std.proofs.lemmas.Result.{IfOk-weaker}
use Rattle.mm_base.specs.Statement.{PlainStatement, plain_statement}
use Rattle.mm_text.specs.Reading.{Reads}
use Rattle.mm_frame.specs.Sentence.{sentence_of, IsLabelled}
use Rattle.mm_rules.specs.Conclusion.{Conclusion}
use Rattle.mm_verdict.specs.declared.theorem.Theorem.{Theorem}
use Rattle.mm_rules.specs.Verdict.{proof_of, sentences}
use Rattle.mm_verdict.specs.Mirror.Theorems.{SayStepsOf, AreStepsOf}
use Rattle.mm_verdict.proofs.Questions.TheoremsAgain.{proof_again, room_again, steps_again}
use Rattle.mm_verdict.proofs.ReplyTexts.{made_both}
use Rattle.mm_verdict.proofs.Verdicts.AcceptedStatements.{KeptWell, read_statements}
use Rattle.mm_verdict.proofs.checked.Checked.theorem_at.Goals as goal

pub read_theorem-requires-clause-proof : goal.read_theorem-requires-clause-proof
read_theorem-requires-clause-proof c =
    let now : Conclusion = c.args.self.now in
    let well = subst KeptWell c.self.view_is c.self.invariant in
    let told = ap (λ (v : Conclusion). v.sentences) c.self.view_is in
    let under = ap (λ (v : Conclusion). v.profile) c.self.view_is in
    rw (under, told)
    (proof_again now c.args.id.0 (plain_statement c.args.statement.now) well c.requires)

pub read_theorem-requires-clause-room : goal.read_theorem-requires-clause-room
read_theorem-requires-clause-room c =
    let now : Conclusion = c.args.self.now in
    let well = subst KeptWell c.self.view_is c.self.invariant in
    room_again now c.args.id.0 (plain_statement c.args.statement.now) well c.requires

pub returns-clause-theorem : goal.returns-clause-theorem
returns-clause-theorem c =
    rw (ap (λ (v : Conclusion). v.sentences) c.self.view_is) at c.read_theorem.ensures.theorem

pub returns-clause-read : goal.returns-clause-read
returns-clause-read c =
    let now : Conclusion = c.args.self.now in
    let well = subst KeptWell c.self.view_is c.self.invariant in
    let told = ap (λ (v : Conclusion). v.sentences) c.self.view_is in
    let id : ℕ = c.args.id.0 in
    let s : PlainStatement = plain_statement c.args.statement.now in
    made_both c.read_theorem.result
    (λ (theorem : Theorem). theorem.id.0 ≡ id)
    (λ (theorem : Theorem). SayStepsOf c.self.inside.book.statements theorem.id.0
    (proof_of s) theorem.steps.moves)
    (λ (theorem : Theorem). (label : List ℕ) → IsLabelled label (sentence_of s)
    → (statements : List PlainStatement) → Reads now.files statements None
    → AreStepsOf statements label theorem.id.0 theorem.steps.moves)
    (λ theorem same said label named statements reads.
    steps_again now theorem.id.0 s label theorem.steps.moves well
    (rw same c.requires) named
    (rw told at said) statements reads)
    c.read_theorem.ensures.id c.read_theorem.ensures.said

pub returns-clause-told : goal.returns-clause-told
returns-clause-told c =
    let now : Conclusion = c.args.self.now in
    let well = subst KeptWell c.self.view_is c.self.invariant in
    IfOk-weaker c.read_theorem.result (λ (theorem : Theorem). theorem.id.0 ≡ c.args.id.0)
    (λ (theorem : Theorem). (statements : List PlainStatement) → Reads now.files statements None
    → now.sentences ≡ sentences statements)
    (λ theorem same statements reads.
    (read_statements now statements well.origin reads).kept.sentences)
    c.read_theorem.ensures.id
