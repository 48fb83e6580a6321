-- The tokens are those of the theorem's proof.
use Rattle.std.proofs.Common.{◌≡◌, ◌≤◌, ◌∙◌, ℕ, List, length, map, ap, sym, subst, take, inl, inr}
use Rattle.std.specs.List.{sum_by}
use Rattle.std.proofs.lemmas.Result.{IfOk-weaker}
use Rattle.mm_base.specs.MostBytes.{most_bytes}
use Rattle.mm_base.specs.Token.{plain_token}
use Rattle.mm_base.specs.declared.token.Token.{Token}
use Rattle.mm_base.specs.Statement.{plain_statement}
use Rattle.mm_text.specs.Files.{plain_file, PlainFile}
use Rattle.mm_step.specs.Plain.{token_texts}
use Rattle.mm_rules.proofs.Judgements.JudgedProofs.{texts_of}
use Rattle.mm_rules.specs.Verdict.{proof_of}
use Rattle.mm_explain.specs.declared.read_to.Reached.{Reached}
use Rattle.mm_explain.specs.Mirror.Reached.{HasReached}
use Rattle.mm_explain.proofs.LoneProofs.LoneTheorems.{reached_fits}
use Rattle.mm_check.proofs.KnownSteps.{reached_proof}
use Rattle.mm_frame.specs.Sentence.{Sentence}
use Rattle.mm_step.specs.declared.fault.ProofRule.{ProofRule}
use Rattle.mm_step.specs.declared.profile.Profile.TheVariants.{Lenient}
use Rattle.mm_proof.specs.Parsed.{OfProof}
use Rattle.mm_facts.specs.Explained.{IsTokensFault}
use Rattle.mm_check.proofs.checked_prefix.known_reply.Goals as goal

-- the tokens of its statement's proof are those of the proof, and in room
own_texts : (reached : Reached) (tokens : List Token) → tokens ≡ reached.statement.proof.items
    → token_texts tokens ≡ proof_of (plain_statement reached.statement)
own_texts reached tokens same =
    ap token_texts same ∙ texts_of reached.statement.proof.items

own_room : (files : List PlainFile) (label : List ℕ) (reached : Reached)
    → HasReached files label reached → (tokens : List Token)
    → tokens ≡ reached.statement.proof.items → sum_by length (token_texts tokens) ≤ most_bytes
own_room files label reached has tokens same =
    subst (λ (ts : List (List ℕ)). sum_by length ts ≤ most_bytes)
    (sym (own_texts reached tokens same)) (reached_fits files label reached has)

pub judged_steps-requires-clause-proof : goal.judged_steps-requires-clause-proof
judged_steps-requires-clause-proof c =
    reached_proof (map plain_file c.args.files.now) c.args.reached.now c.requires

pub judged_steps-requires-clause-room : goal.judged_steps-requires-clause-room
judged_steps-requires-clause-room c =
    own_room (map plain_file c.args.files.now) c.requires.0 c.args.reached.now c.requires.1
    c.deref.result.now c.deref.ensures.value

pub steps_reply-requires-clause-tokens : goal.steps_reply-requires-clause-tokens
steps_reply-requires-clause-tokens c =
    own_texts c.args.reached.now c.deref-in-Ok.result.now c.deref-in-Ok.ensures.value

pub steps_reply-requires-clause-placed : goal.steps_reply-requires-clause-placed
steps_reply-requires-clause-placed c = ap (map plain_token) c.deref-in-Ok.ensures.value

pub steps_reply-requires-clause-room : goal.steps_reply-requires-clause-room
steps_reply-requires-clause-room c =
    own_room (map plain_file c.args.files.now) c.requires.0 c.args.reached.now c.requires.1
    c.deref-in-Ok.result.now c.deref-in-Ok.ensures.value

pub fault_reply-requires-clause-tokens : goal.fault_reply-requires-clause-tokens
fault_reply-requires-clause-tokens c =
    own_texts c.args.reached.now c.deref-in-Err-Rule.result.now c.deref-in-Err-Rule.ensures.value

pub fault_reply-requires-clause-placed : goal.fault_reply-requires-clause-placed
fault_reply-requires-clause-placed c = ap (map plain_token) c.deref-in-Err-Rule.ensures.value

pub fault_reply-requires-clause-room : goal.fault_reply-requires-clause-room
fault_reply-requires-clause-room c =
    own_room (map plain_file c.args.files.now) c.requires.0 c.args.reached.now c.requires.1
    c.deref-in-Err-Rule.result.now c.deref-in-Err-Rule.ensures.value

pub fault_reply-requires-clause-fault : goal.fault_reply-requires-clause-fault
fault_reply-requires-clause-fault c =
    let st : List Sentence = c.args.reached.now.book.statements in
    let rule : ProofRule = c.in-Err-Rule.rule in
    let step : ℕ = c.in-Err-Rule.step in
    let Faulty : List Token → Type 0 = λ tokens. OfProof st c.args.reached.now.id.0
    (λ index s. IsTokensFault Lenient (take index st) s (token_texts tokens) rule step) in
    let told = rw c.in-Err-Rule.field-0-is at c.in-Err-Rule.ensures.fault in
    rw c.in-Err-Rule.field-0-is (subst Faulty (sym c.deref-in-Err-Rule.ensures.value)
    (subst Faulty c.deref.ensures.value told.1))

pub returns-in-Err-Rule : goal.returns-in-Err-Rule
returns-in-Err-Rule c =
    let told = rw c.in-Err-Rule.field-0-is at c.in-Err-Rule.ensures.fault in
    IfOk-weaker c.fault_reply.result _ _
    (λ reply is label r.
    inr (inr (is c.args.telling
    (λ index s number. inl (cc (c.in-Err-Rule.step-is, told.0), c.new.ensures.items)) label r)))
    c.fault_reply.ensures
