-- The answer is that of the question.
use Rattle.std.proofs.Common.{ℕ, List, None}
use Rattle.std.proofs.lemmas.Result.{IfOk-weaker}
use Rattle.mm_text.specs.Files.{PlainFile}
use Rattle.mm_rules.specs.Rests.{IsAskFault}
use Rattle.mm_axioms.specs.Users.{IsAssertionFault}
use Rattle.mm_render.specs.Shown.{ShowsProof}
use Rattle.mm_render.specs.ShownUses.{ShowsUses}
use Rattle.mm_verdict.specs.declared.question.Telling.TheVariants.{Letters}
use Rattle.mm_check.specs.Reply.{IsFormText, IsFormTextFault, IsMinimizedText, ListsUsers}
use Rattle.mm_check.specs.Told.{TellsProof}
use Rattle.mm_check.proofs.AnswersTold.{text_told}
use Rattle.mm_check.proofs.question.answer_to.Goals as goal

pub returns-in-Axioms : goal.returns-in-Axioms
returns-in-Axioms g c =
    rw c.in-Axioms.is
    (IfOk-weaker c.axioms_answer.result _ _
    (λ reply h statements reads. h statements reads (c.requires statements None reads))
    c.axioms_answer.ensures)

pub returns-in-Chain : goal.returns-in-Chain
returns-in-Chain g c = rw c.in-Chain.is c.chain_answer.ensures

pub returns-in-Show : goal.returns-in-Show
returns-in-Show g c =
    let label : List ℕ = c.args.label.now in
    rw c.in-Show.is
    (text_told c.args.checked.now.files label (λ statements text. ShowsProof statements label text)
    (λ statements fault. IsAskFault statements label fault) _ _
    c.proof_listing.ensures.shown c.proof_listing.ensures.fault c.text_reply.ensures)

pub returns-in-Letters : goal.returns-in-Letters
returns-in-Letters g c =
    let label : List ℕ = c.args.label.now in
    let files : List PlainFile = c.args.checked.now.files in
    rw c.in-Letters.is
    (text_told files label (λ statements text. TellsProof Letters files statements label text)
    (λ statements fault. IsAskFault statements label fault) _ _
    c.lettered_listing.ensures.told c.lettered_listing.ensures.fault
    c.text_reply-in-Letters.ensures)

pub returns-in-Uses : goal.returns-in-Uses
returns-in-Uses g c =
    let label : List ℕ = c.args.label.now in
    rw c.in-Uses.is
    (text_told c.args.checked.now.files label
    (λ statements text. ShowsUses c.in-Uses.essential statements label text)
    (λ statements fault. IsAskFault statements label fault) _ _
    c.uses_listing.ensures.shown c.uses_listing.ensures.fault c.text_reply-in-Uses.ensures)

pub returns-in-Form : goal.returns-in-Form
returns-in-Form g c =
    let label : List ℕ = c.args.label.now in
    let files : List PlainFile = c.args.checked.now.files in
    rw c.in-Form.is
    (text_told files label
    (λ statements text. IsFormText c.in-Form.whole c.in-Form.form files statements label text)
    (λ statements fault. IsFormTextFault c.in-Form.whole c.in-Form.form files statements label
    fault) _ _
    c.form_text.ensures.text c.form_text.ensures.fault c.text_reply-in-Form.ensures)

pub returns-in-Same : goal.returns-in-Same
returns-in-Same g c = rw c.in-Same.is c.same_answer.ensures

pub returns-in-Users : goal.returns-in-Users
returns-in-Users g c =
    let label : List ℕ = c.args.label.now in
    rw c.in-Users.is
    (text_told c.args.checked.now.files label
    (λ statements text. ListsUsers c.in-Users.all statements label text)
    (λ statements fault. IsAssertionFault statements label fault) _ _
    c.users_text.ensures.text c.users_text.ensures.fault c.text_reply-in-Users.ensures)

pub returns-in-Minimized : goal.returns-in-Minimized
returns-in-Minimized g c =
    let label : List ℕ = c.args.label.now in
    let files : List PlainFile = c.args.checked.now.files in
    rw c.in-Minimized.is
    (text_told files label
    (λ statements text. IsMinimizedText c.in-Minimized.whole c.args.checked.now.profile files
    statements label text)
    (λ statements fault. IsAskFault statements label fault) _ _
    c.minimized_text.ensures.text c.minimized_text.ensures.fault
    c.text_reply-in-Minimized.ensures)
