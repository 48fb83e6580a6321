-- The text and the status of the reply to each question.
use Rattle.std.proofs.Common.{◌≡◌, ℕ, List, [], ◌∷◌, map}
use Rattle.std.proofs.Common.{refl, ap, sym, subst}
use Rattle.std.proofs.Common.{◌∙◌, ◌≢◌, Some, None, Result, Ok, Err, MatchOption, IfSome}
use Rattle.std.proofs.Common.{IfOk, IfErr, MatchResult}
use Rattle.std.specs.Global.{Vec}
use Rattle.std.proofs.Common.{inl, inr}
use Rattle.mm_text.specs.Files.{PlainFile}
use Rattle.mm_rules.specs.declared.fault.Refusal.{Refusal}
use Rattle.mm_rules.specs.Answer.{plain_refusal, verdict_of_conclusion}
use Rattle.mm_rules.specs.Answer.{verdict_of_answer, verdict_of_fault}
use Rattle.mm_rules.specs.Answer.{IsVerdict, KeepsFiles}
use Rattle.mm_rules.specs.Conclusion.{Conclusion}
use Rattle.mm_rules.specs.Status.{number_of}
use Rattle.mm_verdict.specs.declared.reply.Reply.{Reply}
use Rattle.mm_verdict.specs.Reply.{refusals_text, text_of}
use Rattle.mm_check.specs.Reply.{IsReply, IsRefused}
use Rattle.mm_check.specs.Reply.{IsQuestionReply, IsFaultsReply}
use Rattle.mm_verdict.specs.Reply.{Tells, status_of, refusal_status}
use Rattle.mm_verdict.specs.Reply.{IsAskReply}
use Rattle.mm_check.specs.Reply.{IsTextReply, IsListAnswer}
use Rattle.mm_rules.specs.Verdict.{Refused, Verdict, Load, HasVerdict}
use Rattle.mm_base.specs.Statement.{PlainStatement}
use Rattle.mm_text.specs.Reading.{Reads}
use Rattle.mm_step.specs.declared.profile.Profile.{Profile}
use Rattle.mm_rules.specs.declared.fault.CheckFault.{CheckFault}
use Rattle.mm_rules.specs.declared.ask.AskFault.{AskFault}
use Rattle.mm_verdict.specs.Faults.{HaveFaults}
use Rattle.mm_rules.specs.declared.fault.CheckFault.TheVariants as fault
use Rattle.mm_verdict.proofs.ReplyTexts.{accepted_with}
use Rattle.std.proofs.Common.{Bool, ◌⊎◌, IfNone, Option}
use Rattle.mm_rules.specs.declared.status.Status.{Status}
use Rattle.mm_step.specs.declared.profile.Profile.TheVariants.{Lenient}
use Rattle.mm_rules.specs.declared.ask.AskFault.TheVariants as ask
use Rattle.mm_axioms.specs.Accepted.{AreMeant, ListsAcceptedUsers}
use Rattle.mm_axioms.specs.Users.{IsAssertionFault}
use Rattle.mm_verdict.specs.declared.question.Question.{Question}
use Rattle.mm_verdict.specs.declared.question.Question.TheVariants as question
use Rattle.mm_check.specs.Reply.{AreNotAccepted, IsAboutReply, IsAnswerTo, IsUsersReply}

-- ==== the text and the status that tell a verdict are those of the reply

-- the verdict is told in the refusal, or in the answer
pub verdict_told : (profile : Profile) (files : List PlainFile) (text : List ℕ) (status : ℕ)
    → IsQuestionReply profile files (λ statements answer ends. IsReply profile files answer ends)
    text status
    → IsReply profile files text status
verdict_told profile files text status (inl refused) = record {
  verdict = refused.verdict;
  holds = refused.holds;
  said = refused.said;
  ends = refused.ends;
}
verdict_told profile files text status (inr (statements, accepted, told)) = told

-- the text and the status that tell refusals, of which there is one, are those of the reply
pub told_all : (profile : Profile) (files : List PlainFile) (given refusals : List Refusal)
    (text : List ℕ) (status : ℕ) → given ≡ refusals
    → HaveFaults profile files (map plain_refusal refusals) → refusals ≢ []
    → text ≡ refusals_text files (map plain_refusal given)
    → ((first : Refusal) (others : List Refusal) → given ≡ first ∷ others
    → status ≡ refusal_status first.rule)
    → IsFaultsReply profile files text status
told_all profile files given [] text status same faults some said ends = absurd (some refl)
told_all profile files given (first ∷ others) text status same faults some said ends = inr (
  plain_refusal first,
  map plain_refusal others,
  faults,
  said ∙ ap (λ (rs : List Refusal). refusals_text files (map plain_refusal rs)) same,
  ends first others same,
)

-- the text that is so is told, or the fault that is so
pub text_told : {E : Type 0} (files : List PlainFile) (label : List ℕ)
    (IsText : List PlainStatement → List ℕ → Type 0)
    (IsFault : List PlainStatement → AskFault → Type 0)
    (answer : Result (Vec ℕ) AskFault) (told : Result Reply E)
    → IfOk answer (λ text. (statements : List PlainStatement) → Reads files statements None
    → IsText statements text.items)
    → IfErr answer (λ fault. (statements : List PlainStatement) → Reads files statements None
    → IsFault statements fault)
    → IfOk told (λ reply. MatchResult answer
    (λ text. (reply.text.items ≡ text.items) × (number_of reply.status ≡ 0))
    (λ fault. IsAskReply fault label reply.text.items (number_of reply.status)))
    → IfOk told (λ reply. (statements : List PlainStatement) → Reads files statements None
    → IsTextReply (IsText statements) (IsFault statements) label reply.text.items
    (number_of reply.status))
text_told files label IsText IsFault answer (Err e) said why told = tt
text_told files label IsText IsFault (Ok text) (Ok reply) said why told = λ statements reads. inr (
  subst (λ (t : List ℕ). IsText statements t) (sym told.0) (said statements reads),
  told.1,
)
text_told files label IsText IsFault (Err fault) (Ok reply) said why told = λ statements reads.
    inl (fault, why statements reads, told)

-- a list that is so is told, with the status of the verdict
pub list_told : {E F : Type 0} (c : Conclusion) (Lists : List PlainStatement → List ℕ → Type 0)
    (list : Result (Vec ℕ) F) (told : Result Reply E)
    → IfOk list (λ text. (statements : List PlainStatement) → Reads c.files statements None
    → Lists statements text.items)
    → IfOk told (λ reply. MatchResult list
    (λ text. (reply.text.items ≡ text.items)
    × (number_of reply.status ≡ status_of (verdict_of_conclusion c)))
    (λ fault. ⊥))
    → IfOk told (λ reply. (statements : List PlainStatement) → Reads c.files statements None
    → HasVerdict c.profile c.files (verdict_of_conclusion c)
    → IsListAnswer Lists c.profile c.files statements reply.text.items (number_of reply.status))
list_told c Lists list (Err e) lists told = tt
list_told c Lists (Err fault) (Ok reply) lists told = absurd told
list_told c Lists (Ok text) (Ok reply) lists told = λ statements reads has. (
  subst (λ (t : List ℕ). Lists statements t) (sym told.0) (lists statements reads),
  verdict_of_conclusion c,
  has,
  told.1,
)

-- the answer over the statements of the files that are kept, in the profile that is
pub question_read : (profile : Profile) (files : List PlainFile)
    (answer : Result Conclusion CheckFault) (c : Conclusion)
    (Answers : Profile → List PlainFile → List PlainStatement → List ℕ → ℕ → Type 0)
    (text : List ℕ) (status : ℕ)
    → answer ≡ Ok c → IsVerdict profile files answer → KeepsFiles files c → c.profile ≡ profile
    → ((statements : List PlainStatement) → Reads c.files statements None
    → HasVerdict c.profile c.files (verdict_of_conclusion c)
    → Answers c.profile c.files statements text status)
    → IsQuestionReply profile files (Answers profile files) text status
question_read profile files answer c Answers text status is holds same under answers =
    let verdict : Verdict = verdict_of_conclusion c in
    let has : HasVerdict profile files verdict = holds verdict (ap verdict_of_answer is) in
    let found = accepted_with profile files c c.incomplete has in
    let reads = subst (λ (fs : List PlainFile). Reads fs found.0 None) (sym same) found.1.reads in
    let own = subst (λ (p : Profile). HasVerdict p c.files verdict) (sym under)
    (subst (λ (fs : List PlainFile). HasVerdict profile fs verdict) (sym same) has) in
    inr (
      found.0,
      found.1,
      subst (λ (p : Profile). Answers p files found.0 text status) under
          (subst (λ (fs : List PlainFile). Answers c.profile fs found.0 text status) same
          (answers found.0 reads own)),
    )

-- the refusal of the files
pub refused_at : (profile : Profile) (files : List PlainFile) (fault : CheckFault) (text : List ℕ)
    (status : ℕ)
    → ((verdict : Verdict) → verdict_of_fault fault ≡ Some verdict
    → HasVerdict profile files verdict)
    → MatchOption (verdict_of_fault fault) ⊥ (λ verdict. text ≡ text_of files verdict)
    → IfSome (verdict_of_fault fault) (λ verdict. status ≡ status_of verdict)
    → IsRefused profile files text status
refused_at profile files (fault.Load rule) text status holds said ends = record {
  verdict = Load rule;
  holds = holds (Load rule) refl;
  refuses = tt;
  said = said;
  ends = ends;
}
refused_at profile files (fault.Refused r) text status holds said ends = record {
  verdict = Refused (plain_refusal r);
  holds = holds (Refused (plain_refusal r)) refl;
  refuses = tt;
  said = said;
  ends = ends;
}
refused_at profile files fault.Memory text status holds said ends = absurd said

pub question_refused : (profile : Profile) (files : List PlainFile)
    (answer : Result Conclusion CheckFault) (fault : CheckFault)
    (Answers : List PlainStatement → List ℕ → ℕ → Type 0) (text : List ℕ) (status : ℕ)
    → answer ≡ Err fault → IsVerdict profile files answer → Tells files answer text
    → IfSome (verdict_of_answer answer) (λ verdict. status ≡ status_of verdict)
    → IsQuestionReply profile files Answers text status
question_refused profile files answer fault Answers text status is holds said ends =
    let Holds : Result Conclusion CheckFault → Type 0 = λ a. IsVerdict profile files a in
    let Said : Result Conclusion CheckFault → Type 0 = λ a. Tells files a text in
    let Ends : Result Conclusion CheckFault → Type 0 =
    λ a. IfSome (verdict_of_answer a) (λ verdict. status ≡ status_of verdict) in
    inl (refused_at profile files fault text status (subst Holds is holds) (subst Said is said)
    (subst Ends is ends))

-- ---- questions about a label

-- any question but that for users is answered over what is accepted
pub other_question : (asked : Question) (files : List PlainFile) (label text : List ℕ) (status : ℕ)
    → ((all : Bool) → asked ≡ question.Users all → ⊥)
    → IsQuestionReply Lenient files (IsAnswerTo Lenient asked files label) text status
    → IsAboutReply asked files label text status
other_question (question.Users all) files label text status other told = absurd (other all refl)
other_question (question.Axioms essential) files label text status other told = told
other_question (question.Chain to) files label text status other told = told
other_question question.Show files label text status other told = told
other_question question.Letters files label text status other told = told
other_question (question.Uses essential) files label text status other told = told
other_question (question.Form form whole) files label text status other told = told
other_question (question.Same proof) files label text status other told = told
other_question (question.Minimized whole) files label text status other told = told

-- the answer over the statements of the files that are kept
pub users_read : (all : Bool) (files : List PlainFile) (answer : Result Conclusion CheckFault)
    (c : Conclusion) (label text : List ℕ) (status : ℕ) → answer ≡ Ok c
    → IsVerdict Lenient files answer → KeepsFiles files c → c.profile ≡ Lenient
    → ((statements : List PlainStatement) → Reads c.files statements None
    → IsAnswerTo c.profile (question.Users all) c.files label statements text status)
    → IsUsersReply all files label text status
users_read all files answer c label text status is holds same under answers =
    let has : HasVerdict Lenient files (verdict_of_conclusion c) =
    holds (verdict_of_conclusion c) (ap verdict_of_answer is) in
    let found = accepted_with Lenient files c c.incomplete has in
    let reads = subst (λ (fs : List PlainFile). Reads fs found.0 None) (sym same) found.1.reads in
    inl (
      found.0,
      found.1,
      subst (λ (p : Profile). IsAnswerTo p (question.Users all) files label found.0 text status)
          under
          (subst (λ (fs : List PlainFile).
          IsAnswerTo c.profile (question.Users all) fs label found.0 text status) same
          (answers found.0 reads)),
    )

module _ (all : Bool) (files : List PlainFile) (label : List ℕ)
    (fault : CheckFault) (refused : Reply)
    (holds : (verdict : Verdict) → verdict_of_fault fault ≡ Some verdict
    → HasVerdict Lenient files verdict)
    (said : Tells files (Err fault) refused.text.items)
    (ends : IfSome (verdict_of_fault fault)
    (λ verdict. number_of refused.status ≡ status_of verdict)) where
  is_refused : IsRefused Lenient files refused.text.items (number_of refused.status)
  is_refused = refused_at Lenient files fault refused.text.items (number_of refused.status) holds
      said ends

  not_accepted : AreNotAccepted files
  not_accepted = (is_refused.verdict, is_refused.holds, is_refused.refuses)

  -- the users by accepted proofs are told, or the refusal
  pub users_beside : (found : Option (Vec ℕ)) (reply : Reply)
      → IfSome found (λ text. (statements : List PlainStatement) × AreMeant files statements
      × ListsAcceptedUsers all statements label text.items)
      → IfNone found ((statements : List PlainStatement) → ¬ (AreMeant files statements))
      → MatchOption found
      ((reply.text.items ≡ refused.text.items) × (reply.status ≡ refused.status))
      (λ text. (reply.text.items ≡ text.items) × (number_of reply.status ≡ 0))
      → IsUsersReply all files label reply.text.items (number_of reply.status)
  users_beside None reply some none (text, status) =
      subst (λ (t : List ℕ). IsUsersReply all files label t (number_of reply.status)) (sym text)
      (subst (λ (s : Status). IsUsersReply all files label refused.text.items (number_of s))
      (sym status) (inr (inr (none, is_refused))))
  users_beside (Some told) reply (statements, meant, lists) none (text, done) =
      inr (inl (
        statements,
        meant,
        not_accepted,
        inr (subst (ListsAcceptedUsers all statements label) (sym text) lists, done),
      ))

  -- or why there are none
  pub no_users_beside : (why : AskFault) (told : List ℕ) (status : ℕ)
      → (why ≡ ask.Memory)
      ⊎ ((statements : List PlainStatement) × AreMeant files statements
      × IsAssertionFault statements label why)
      → IsAskReply why label told status → IsUsersReply all files label told status
  no_users_beside why told status (inl memory) says =
      absurd (subst (λ (f : AskFault). IsAskReply f label told status) memory says)
  no_users_beside why told status (inr (statements, meant, faulty)) says =
      inr (inl (statements, meant, not_accepted, inl (why, faulty, says)))
