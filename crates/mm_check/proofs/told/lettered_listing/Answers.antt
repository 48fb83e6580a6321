-- What is read again under the label is the theorem.
use Rattle.std.proofs.Common.{◌≡◌, ◌≤◌, ◌∙◌, ℕ, List, None, length, map, sym, ap, subst}
use Rattle.std.specs.List.{sum_by, AllZip}
use Rattle.mm_base.specs.MostBytes.{most_bytes}
use Rattle.mm_base.specs.Statement.{PlainStatement, plain_statement}
use Rattle.mm_base.specs.Token.{PlainToken, plain_token}
use Rattle.mm_text.specs.Files.{PlainFile, plain_file}
use Rattle.mm_frame.specs.Sentence.{Sentence}
use Rattle.mm_step.specs.Plain.{token_texts}
use Rattle.mm_listing.specs.declared.lines.Line.{Line}
use Rattle.mm_listing.specs.Listing.{TellsStep}
use Rattle.mm_rules.specs.Conclusion.{Conclusion}
use Rattle.mm_rules.specs.Verdict.{CanBeRead}
use Rattle.mm_rules.proofs.Judgements.JudgedProofs.{texts_of}
use Rattle.mm_verdict.proofs.Verdicts.AcceptedStatements.{AreOf, KeptWell, own_statements}
use Rattle.mm_verdict.proofs.Verdicts.AcceptedStatements.{one_stands, proof_fits, read_statements}
use Rattle.mm_verdict.proofs.Verdicts.StatementByStatement.{all_meant}
use Rattle.mm_verdict.specs.Mirror.Theorems.{IsWholeProof}
use Rattle.mm_facts.specs.Lettered.{AreLetteredLines}
use Rattle.mm_check.proofs.ToldTheorems.{theorem_said, theorem_told}
use Rattle.mm_check.proofs.told.lettered_listing.Goals as goal

pub reread-requires-clause-readable : goal.reread-requires-clause-readable
reread-requires-clause-readable c =
    let well = subst KeptWell c.checked.view_is c.checked.invariant in
    subst CanBeRead (sym (ap (λ (v : Conclusion). v.files) c.checked.view_is))
    well.origin.accepted.readable

pub reread-requires-clause-stands : goal.reread-requires-clause-stands
reread-requires-clause-stands c =
    let now : Conclusion = c.args.checked.now in
    let well = subst KeptWell c.checked.view_is c.checked.invariant in
    let files : map plain_file c.checked.inside.files.now ≡ now.files =
    ap (λ (v : Conclusion). v.files) c.checked.view_is in
    let own : AreOf now well.origin.statements = own_statements now well.origin in
    let r = (c.in_ok-theorem.ensures.read well.origin.statements own.accepted.reads).1 in
    (well.origin.statements, r.s, rw files own.accepted.reads, (r.index, r.there, r.named))

pub lines_of-requires : goal.lines_of-requires
lines_of-requires c =
    rw (ap (λ (v : Conclusion). v.sentences) c.checked.view_is) c.in_ok-theorem.ensures.theorem

pub lettered_text-requires-clause-room : goal.lettered_text-requires-clause-room
lettered_text-requires-clause-room c =
    let now : Conclusion = c.args.checked.now in
    let well = subst KeptWell c.checked.view_is c.checked.invariant in
    let files : map plain_file c.checked.inside.files.now ≡ now.files =
    ap (λ (v : Conclusion). v.files) c.checked.view_is in
    let own : AreOf now well.origin.statements = own_statements now well.origin in
    let stands = c.in_ok-statement.ensures.found well.origin.statements
    (rw files own.accepted.reads) in
    let t : PlainStatement = plain_statement c.in_ok-statement.statement in
    subst (λ (ts : List (List ℕ)). sum_by length ts ≤ most_bytes)
    (sym (ap token_texts c.deref.ensures.value ∙ texts_of c.in_ok-statement.statement.proof.items))
    (proof_fits now.files well.origin.statements None stands.0 t own.accepted.readable
    own.accepted.reads stands.1)

pub lettered_text-requires-clause-said : goal.lettered_text-requires-clause-said
lettered_text-requires-clause-said c =
    let now : Conclusion = c.args.checked.now in
    let well = subst KeptWell c.checked.view_is c.checked.invariant in
    let files : map plain_file c.checked.inside.files.now ≡ now.files =
    ap (λ (v : Conclusion). v.files) c.checked.view_is in
    let sentences_are : c.checked.inside.book.statements ≡ now.sentences =
    ap (λ (v : Conclusion). v.sentences) c.checked.view_is in
    let own : AreOf now well.origin.statements = own_statements now well.origin in
    let read = c.in_ok-theorem.ensures.read well.origin.statements own.accepted.reads in
    let r = read.1 in
    let stands = c.in_ok-statement.ensures.found well.origin.statements
    (rw files own.accepted.reads) in
    let t : PlainStatement = plain_statement c.in_ok-statement.statement in
    let one : t ≡ r.s = one_stands well.origin.statements c.args.label.now r.index r.s t
    (all_meant now.profile well.origin.statements own.accepted.obeyed) r.there r.named stands in
    rw c.deref-2.ensures.value
    (theorem_said c.checked.inside.book.statements well.origin.statements c.args.label.now
    c.in_ok-theorem.theorem.id.0 c.in_ok-theorem.theorem.steps.moves c.in_ok-lines.lines.items t
    (sentences_are ∙ read.0) r one c.in_ok-lines.ensures.listed
    (token_texts c.deref.result.now)
    (ap token_texts c.deref.ensures.value ∙ texts_of c.in_ok-statement.statement.proof.items))

pub lettered_text-requires-clause-lines : goal.lettered_text-requires-clause-lines
lettered_text-requires-clause-lines c =
    let st : List Sentence = c.checked.inside.book.statements in
    let whole : IsWholeProof st c.in_ok-theorem.theorem.id.0 c.in_ok-theorem.theorem.steps =
    rw (ap (λ (v : Conclusion). v.sentences) c.checked.view_is) c.in_ok-theorem.ensures.theorem in
    let a = whole.0 in
    let listed = c.in_ok-lines.ensures.listed a.index a.s a.moves a.proof a.numbered in
    (listed.0, rw c.deref-2.ensures.value listed.2)

pub returns-clause-told : goal.returns-clause-told
returns-clause-told c =
    let now : Conclusion = c.args.checked.now in
    let well = subst KeptWell c.checked.view_is c.checked.invariant in
    let files : map plain_file c.checked.inside.files.now ≡ now.files =
    ap (λ (v : Conclusion). v.files) c.checked.view_is in
    let sentences_are : c.checked.inside.book.statements ≡ now.sentences =
    ap (λ (v : Conclusion). v.sentences) c.checked.view_is in
    let text : List ℕ = c.in_ok-lettered_text.field-0.items in
    λ statements reads.
    let of : AreOf now statements = read_statements now statements well.origin reads in
    let read = c.in_ok-theorem.ensures.read statements reads in
    let r = read.1 in
    let stands = c.in_ok-statement.ensures.found statements (rw files reads) in
    let t : PlainStatement = plain_statement c.in_ok-statement.statement in
    let one : t ≡ r.s = one_stands statements c.args.label.now r.index r.s t
    (all_meant now.profile statements of.accepted.obeyed) r.there r.named stands in
    theorem_told c.checked.inside.book.statements statements c.args.label.now
    c.in_ok-theorem.theorem.id.0 c.in_ok-theorem.theorem.steps.moves c.in_ok-lines.lines.items t
    (sentences_are ∙ read.0) r one c.in_ok-lines.ensures.listed now.files text
    (λ told tells.
    subst (λ (fs : List PlainFile). AreLetteredLines fs t.proof told text) files
    (subst (λ (ts : List PlainToken).
    AreLetteredLines (map plain_file c.checked.inside.files.now) ts told text)
    (ap (map plain_token) c.deref.ensures.value)
    (c.in_ok-lettered_text.ensures told
    (subst (λ (lines : List Line). AllZip (TellsStep c.checked.inside.book.statements) lines told)
    (sym c.deref-2.ensures.value) tells))))
