-- The reply to a command: its text and its status, which are this project's own.
use Rattle.std.specs.Prelude.{◌≡◌, ℕ, ◌+◌, ◌<◌, ◌≤◌, List, [], ◌∷◌, ◌++◌, map, length, Option}
use Rattle.std.specs.Prelude.{Bool, true, false, None, slice_range}
use Rattle.std.specs.Prelude.{◌⊎◌, codes}
use Rattle.std.specs.List.{AllByRecursion}
use Rattle.std.specs.Io.KnownBytes.{Appends}
use Rattle.mm_base.specs.MostBytes.{most_bytes}
use Rattle.mm_base.specs.Statement.{PlainStatement}
use Rattle.mm_code.specs.Layout.{texts}
use Rattle.mm_text.specs.Files.{PlainFile}
use Rattle.mm_text.specs.Device.{AppendsBeginning}
use Rattle.mm_text.specs.Remarks.{IsCommentBefore}
use Rattle.mm_frame.specs.Sentence.{Sentence, sentence_of}
use Rattle.mm_step.specs.declared.fault.ProofRule.{ProofRule}
use Rattle.mm_proof.specs.CheckedPrefix.{checked_prefix}
use Rattle.mm_proof.specs.Tokens.{is_incomplete}
use Rattle.mm_proof.specs.UnderProfile.{IsProvedUnder, IsPrefixAllowedUnder}
use Rattle.mm_step.specs.declared.profile.Profile.{Profile}
use Rattle.mm_step.specs.declared.profile.Profile.TheVariants.{Lenient}
use Rattle.mm_rules.specs.declared.rule.Rule.{Rule}
use Rattle.mm_rules.specs.declared.rule.Rule.TheVariants as rules
use Rattle.mm_rules.specs.declared.rule.AskRule.{AskRule}
use Rattle.mm_rules.specs.declared.rule.AskRule.TheVariants.{A1, L2}
use Rattle.mm_rules.specs.Answer.{labels_at}
use Rattle.mm_axioms.specs.AllAxioms.{ReportLine, AreReportLines}
use Rattle.mm_rules.specs.declared.ask.AskFault.{AskFault}
use Rattle.mm_rules.specs.declared.ask.AskFault.TheVariants as ask
use Rattle.mm_verdict.specs.declared.question.Command.{Command}
use Rattle.mm_verdict.specs.declared.question.Command.TheVariants.{Whole, About, Lone, File, Shorter}
use Rattle.mm_verdict.specs.declared.question.Command.TheVariants.{Find, Statement, Lemmas}
use Rattle.mm_check.specs.Chain.{IsChainReply}
use Rattle.mm_find.specs.Reply.{IsFindReply, query_for}
use Rattle.mm_verdict.specs.declared.question.Question.{Question}
use Rattle.mm_verdict.specs.declared.question.Question.TheVariants as question
use Rattle.mm_verdict.specs.declared.question.LoneQuestion.{LoneQuestion}
use Rattle.mm_verdict.specs.declared.question.LoneQuestion.TheVariants.{Known, KnownNormal, Try}
use Rattle.mm_verdict.specs.declared.question.Telling.{Telling}
use Rattle.mm_verdict.specs.declared.question.Telling.TheVariants as telling
use Rattle.mm_verdict.specs.declared.question.WholeQuestion.{WholeQuestion}
use Rattle.mm_verdict.specs.declared.question.WholeQuestion.TheVariants.{Check, Faults, Why}
use Rattle.mm_verdict.specs.declared.question.WholeQuestion.TheVariants.{Axioms as AllAxioms}
use Rattle.mm_verdict.specs.declared.question.WholeQuestion.TheVariants.{Shorter as AllShorter}
use Rattle.mm_axioms.specs.Accepted.{AreMeant, ListsAcceptedUsers}
use Rattle.mm_axioms.specs.Users.{IsAssertionFault, AreUsers}
use Rattle.mm_axioms.specs.Essential.{IsEssentialReport}
use Rattle.mm_rules.specs.Rests.{IsAskFault, IsReport}
use Rattle.mm_verdict.specs.Alone.{IsRefusedBefore, IsNoTheorem, IsReadTo, IsTheoremAt}
use Rattle.mm_check.specs.Alone.{AreStepsBefore}
use Rattle.mm_check.specs.KnownNormal.{IsKnownNormalReply}
use Rattle.mm_check.specs.Told.{TellsMoves, TellsProof}
use Rattle.mm_facts.specs.Explained.{Detail, IsTokensFault, AreDetails, AreLeftOver}
use Rattle.mm_render.specs.Shorter.{IsMinimized, home_bytes}
use Rattle.mm_render.specs.Shown.{ShowsProof}
use Rattle.mm_render.specs.ShownUses.{ShowsUses}
use Rattle.mm_verdict.specs.declared.form.Form.{Form}
use Rattle.mm_verdict.specs.declared.form.Form.TheVariants as form
use Rattle.mm_render.specs.Forms.{IsNormalOf, IsPackedOf, IsSmallOf}
use Rattle.mm_render.specs.Compared.{IsCompared}
use Rattle.mm_rules.specs.Compared.{IsSameFault}
use Rattle.mm_render.specs.Saved.{IsSaved, FitsSaved, IsFormFault, IsSaveFault}
use Rattle.mm_verdict.specs.Stated.{TellsStatement}
use Rattle.mm_save.specs.AllSaved.{IsAllSaved, IsFirstTooLong, IsAllSaveFault}
use Rattle.mm_minimize.specs.AllShorter.{IsAllShortened, IsAllShorterFault, ShorterLine}
use Rattle.mm_minimize.specs.AllShorter.{AreShorterLines, IsOneShortened, shorter_text}
use Rattle.mm_lemmas.specs.Told.{ListsLemmas}
use Rattle.mm_rules.specs.Verdict.{PlainRefusal, Verdict, Load, Refused, Incomplete, Yes}
use Rattle.mm_rules.specs.Verdict.{HasVerdict, AreAccepted, labels_of, proof_of, sentences}
use Rattle.mm_rules.specs.Verdict.{refusal_of}
use Rattle.mm_verdict.specs.Faults.{HaveFaults, refusal_in}
use Rattle.mm_facts.specs.Why.{IsFaultPlace}
use Rattle.mm_explain.specs.Why.{TellsFaults, head_text}
use Rattle.mm_rules.specs.Places.{name_of}
use Rattle.mm_base.specs.Token.{PlainToken}
use Rattle.mm_code.specs.Words.{texts_of}
use Rattle.mm_verdict.specs.Reply.{IsAskReply, line_with, lines_of, refusal_status, refusals_text, status_of, text_of}
use Rattle.mm_explain.specs.Reply.{IsExplained, IsTryReply}
use Rattle.mm_axioms.specs.Reply.{lines_text}

-- This is the text and the status of the reply to `check` in the profile.
pub record IsReply (profile : Profile) (files : List PlainFile) (text : List ℕ)
    (status : ℕ) : Type 0 where
  pub verdict : Verdict
  pub holds : HasVerdict profile files verdict
  pub said : text ≡ text_of files verdict
  pub ends : status ≡ status_of verdict

-- This is the text and the status of the reply to `faults` in the profile: where `check` tells no
-- refusal, those of its reply; else a line for each fault, and the status of the first.
abbrev pub IsFaultsReply : Profile → List PlainFile → List ℕ → ℕ → Type 0
IsFaultsReply profile files text status =
    ((verdict : Verdict) × HasVerdict profile files verdict × (refusal_in verdict ≡ None)
    × (text ≡ text_of files verdict) × (status ≡ status_of verdict))
    ⊎ ((first : PlainRefusal) × (others : List PlainRefusal)
    × HaveFaults profile files (first ∷ others)
    × (text ≡ refusals_text files (first ∷ others)) × (status ≡ refusal_status first.rule))

-- This is the text and the status of the reply to `why` in the profile: where `check` tells no
-- refusal, those of its reply; else what tells all faults and explains them, if so it is said with
-- lines of the files, and the status of the first.
abbrev pub IsWhyReply : (source : Bool) → Profile → List PlainFile → List ℕ → ℕ → Type 0
IsWhyReply source profile files text status =
    ((verdict : Verdict) × HasVerdict profile files verdict × (refusal_in verdict ≡ None)
    × (text ≡ text_of files verdict) × (status ≡ status_of verdict))
    ⊎ ((first : PlainRefusal) × (others : List PlainRefusal)
    × HaveFaults profile files (first ∷ others) × TellsFaults profile source files (first ∷ others) text
    × (status ≡ refusal_status first.rule))

-- ---- questions

-- the verdict is that the files are refused
abbrev pub IsRefusal : Verdict → Type 0
IsRefusal (Load rule) = Unit {0}
IsRefusal (Refused refusal) = Unit {0}
IsRefusal (Incomplete labels) = ⊥
IsRefusal (Yes statements proofs) = ⊥

-- The files are refused in the profile, and this is the text and the status of the refusal.
pub record IsRefused (profile : Profile) (files : List PlainFile) (text : List ℕ) (status : ℕ)
    : Type 0 where
  pub verdict : Verdict
  pub holds : HasVerdict profile files verdict
  pub refuses : IsRefusal verdict
  pub said : text ≡ text_of files verdict
  pub ends : status ≡ status_of verdict

-- the text of a report: a line for each axiom, and then one for each unproved theorem, after a
-- question mark
abbrev pub report_text : List (List ℕ) → List ℕ → List ℕ → List ℕ
report_text labels axioms unproved =
    lines_of (labels_at labels axioms)
    ++ lines_of (map (λ label. codes "? " ++ label) (labels_at labels unproved))

-- the status of a report: 3 where a theorem is unproved
abbrev pub report_status : List ℕ → ℕ
report_status [] = 0
report_status (id ∷ unproved) = 3

-- what the theorem with the label rests on; or of the axioms those alone that have its type code
abbrev pub IsReportFor : (essential : Bool) → List PlainStatement → (label : List ℕ)
    → (axioms unproved : List ℕ) → Type 0
IsReportFor true statements label axioms unproved =
    IsEssentialReport statements label axioms unproved
IsReportFor false statements label axioms unproved = IsReport statements label axioms unproved

-- the reply to the question what the theorem with a label rests on
abbrev pub IsAxiomsReply : (essential : Bool) → List ℕ → List PlainStatement → List ℕ → ℕ → Type 0
IsAxiomsReply essential label statements text status =
    ((fault : AskFault) × IsAskFault statements label fault × IsAskReply fault label text status)
    ⊎ ((axioms : List ℕ) × (unproved : List ℕ)
    × IsReportFor essential statements label axioms unproved
    × (text ≡ report_text (labels_of statements) axioms unproved)
    × (status ≡ report_status unproved))

-- The reply to a question about a label that a text answers: the text, or why there is none.
abbrev pub IsTextReply : (IsText : List ℕ → Type 0) → (IsFault : AskFault → Type 0)
    → (label : List ℕ) → List ℕ → ℕ → Type 0
IsTextReply IsText IsFault label text status =
    ((fault : AskFault) × IsFault fault × IsAskReply fault label text status)
    ⊎ (IsText text × (status ≡ 0))

-- a line for each user of the assertion with a label, or for all that rest on it
abbrev pub ListsUsers : (all : Bool) → List PlainStatement → (label : List ℕ) → List ℕ → Type 0
ListsUsers all statements label text =
    (users : List ℕ) × AreUsers all statements label users
    × (text ≡ lines_of (labels_at (labels_of statements) users))

-- the proof of the theorem with a label in a form; or the bytes of its whole file with that proof
abbrev pub IsFormText : (whole : Bool) → Form → List PlainFile → List PlainStatement
    → (label : List ℕ) → List ℕ → Type 0
IsFormText true wanted files statements label text =
    (number : ℕ) × IsSaved wanted files statements label number text
    × FitsSaved files number text
IsFormText false form.Normal files statements label text = IsNormalOf statements label text
IsFormText false form.Packed files statements label text = IsPackedOf statements label text
IsFormText false form.Small files statements label text = IsSmallOf statements label text

-- why there is none
abbrev pub IsFormTextFault : (whole : Bool) → Form → List PlainFile → List PlainStatement
    → (label : List ℕ) → AskFault → Type 0
IsFormTextFault true wanted files statements label fault =
    IsSaveFault wanted files statements label fault
IsFormTextFault false wanted files statements label fault = IsFormFault wanted statements label fault

-- a shorter proof of the theorem with a label, or its own small one; or the bytes of its whole
-- file, with the shorter proof or as they are
abbrev pub IsMinimizedText : (whole : Bool) → Profile → List PlainFile → List PlainStatement
    → (label : List ℕ) → List ℕ → Type 0
IsMinimizedText true profile files statements label text =
    IsOneShortened profile files statements label text
IsMinimizedText false profile files statements label text =
    IsMinimized profile files statements label text

-- the line and the status that tell whether two proofs are the same
abbrev pub same_text : Bool → List ℕ
same_text true = line_with (codes "same") []
same_text false = line_with (codes "different") []

abbrev pub same_status : Bool → ℕ
same_status true = 0
same_status false = 1

-- the reply to the question whether a proof's text is the same proof as that of the theorem with a
-- label
abbrev pub IsSameReply : Profile → (label proof : List ℕ) → List PlainStatement → List ℕ → ℕ
    → Type 0
IsSameReply profile label proof statements text status =
    ((fault : AskFault) × IsSameFault profile statements label proof fault
    × IsAskReply fault label text status)
    ⊎ ((same : Bool) × IsCompared profile statements label proof same
    × (text ≡ same_text same) × (status ≡ same_status same))

-- the reply to a question about the assertion with a label, in the profile that the files obey
abbrev pub IsAnswerTo : Profile → Question → List PlainFile → (label : List ℕ)
    → List PlainStatement → List ℕ → ℕ → Type 0
IsAnswerTo profile (question.Axioms essential) files label statements text status =
    IsAxiomsReply essential label statements text status
IsAnswerTo profile (question.Chain other) files label statements text status =
    IsChainReply label other.now statements text status
IsAnswerTo profile question.Show files label statements text status =
    IsTextReply (ShowsProof statements label) (IsAskFault statements label) label text status
IsAnswerTo profile question.Letters files label statements text status =
    IsTextReply (TellsProof telling.Letters files statements label) (IsAskFault statements label)
    label text status
IsAnswerTo profile (question.Uses essential) files label statements text status =
    IsTextReply (ShowsUses essential statements label) (IsAskFault statements label) label text
    status
IsAnswerTo profile (question.Form wanted whole) files label statements text status =
    IsTextReply (IsFormText whole wanted files statements label)
    (IsFormTextFault whole wanted files statements label) label text status
IsAnswerTo profile (question.Same proof) files label statements text status =
    IsSameReply profile label proof.now statements text status
IsAnswerTo profile (question.Users all) files label statements text status =
    IsTextReply (ListsUsers all statements label) (IsAssertionFault statements label) label text
    status
IsAnswerTo profile (question.Minimized whole) files label statements text status =
    IsTextReply (IsMinimizedText whole profile files statements label)
    (IsAskFault statements label) label text status

-- the reply to the question for the file with a number, in which each proof is replaced that became
-- shorter: the bytes of the file, and nothing else; or the name of the file, where the files would
-- have too many bytes
abbrev pub IsAllShortenedReply : Profile → (duplicates : Bool) → List PlainFile → (number : ℕ)
    → List PlainStatement → List ℕ → ℕ → Type 0
IsAllShortenedReply profile duplicates files number statements text status =
    IsTextReply
    (λ new. IsAllShortened profile duplicates files statements number new
    × FitsSaved files number new)
    (IsAllShorterFault profile duplicates files statements number) (name_of files number) text
    status

-- the reply to the question for the file with a number, with each complete proof in a form: the bytes
-- of the file, and nothing else; or the label of the first theorem whose proof is too long, or the
-- name of the file, where the files would have too many bytes
abbrev pub IsAllSavedReply : Form → List PlainFile → (number : ℕ) → List PlainStatement → List ℕ → ℕ
    → Type 0
IsAllSavedReply wanted files number statements text status =
    ((label : List ℕ) × (wanted ≡ form.Normal) × IsFirstTooLong statements number label
    × IsAskReply (ask.Rule L2) label text status)
    ⊎ IsTextReply
    (λ new. IsAllSaved wanted files statements number new × FitsSaved files number new)
    (IsAllSaveFault wanted files statements number) (name_of files number) text status

-- The reply to a question about the database in the profile: the refusal, if it is refused, else the
-- answer over its statements.
abbrev pub IsQuestionReply : Profile → List PlainFile
    → (List PlainStatement → List ℕ → ℕ → Type 0) → List ℕ → ℕ → Type 0
IsQuestionReply profile files Answers text status =
    IsRefused profile files text status
    ⊎ ((statements : List PlainStatement) × AreAccepted profile files statements
    × Answers statements text status)

-- The answer lists this of all statements; its status is that of the verdict.
abbrev pub IsListAnswer : (Lists : List PlainStatement → List ℕ → Type 0) → Profile
    → List PlainFile → List PlainStatement → List ℕ → ℕ → Type 0
IsListAnswer Lists profile files statements text status =
    Lists statements text
    × (verdict : Verdict) × HasVerdict profile files verdict × (status ≡ status_of verdict)

-- the lines of all theorems on what they rest on, of the axioms on all or on the essential ones
abbrev pub ListsAxioms : (essential : Bool) → List PlainStatement → List ℕ → Type 0
ListsAxioms essential statements text =
    (lines : List ReportLine) × AreReportLines essential statements lines
    × (text ≡ lines_text lines)

-- a line for each proof that is found to become shorter, and the sums
abbrev pub ListsShorter : Profile → List PlainFile → List PlainStatement → List ℕ → Type 0
ListsShorter profile files statements text =
    (lines : List ShorterLine) × AreShorterLines profile files statements lines
    × (text ≡ shorter_text statements lines)

-- The reply to the question which lemmas the library lacks: where the lenient profile accepts the
-- files, a line for each that a search finds, so many at most, each of which saves so many bytes or
-- more, and the sums. That a lemma follows isn't judged.
abbrev pub IsLemmasReply : (most least : ℕ) → List PlainFile → List ℕ → ℕ → Type 0
IsLemmasReply most least files text status =
    IsQuestionReply Lenient files (IsListAnswer (ListsLemmas most least) Lenient files) text status

-- ---- the users of an assertion

-- the lenient profile refuses the files
abbrev pub AreNotAccepted : List PlainFile → Type 0
AreNotAccepted files =
    (verdict : Verdict) × HasVerdict Lenient files verdict × IsRefusal verdict

-- The reply to the question who uses the assertion with a label, or who rests on it. Where proofs
-- alone are at fault, those that are accepted count; where a rule of the text or of meaning is
-- broken, or the files can't be taken, it is the refusal.
abbrev pub IsUsersReply : (all : Bool) → List PlainFile → (label : List ℕ) → List ℕ → ℕ → Type 0
IsUsersReply all files label text status =
    ((statements : List PlainStatement) × AreAccepted Lenient files statements
    × IsAnswerTo Lenient (question.Users all) files label statements text status)
    ⊎ (((statements : List PlainStatement) × AreMeant files statements × AreNotAccepted files
    × IsTextReply (ListsAcceptedUsers all statements label) (IsAssertionFault statements label)
    label text status)
    ⊎ (((statements : List PlainStatement) → ¬ (AreMeant files statements))
    × IsRefused Lenient files text status))

-- The reply to a question about the statement with a label: that to who uses it; else the refusal,
-- or the answer over the statements that the lenient profile accepts.
abbrev pub IsAboutReply : Question → List PlainFile → (label : List ℕ) → List ℕ → ℕ → Type 0
IsAboutReply (question.Users all) files label text status =
    IsUsersReply all files label text status
IsAboutReply asked files label text status =
    IsQuestionReply Lenient files (IsAnswerTo Lenient asked files label) text status

-- ---- one theorem alone

-- The reply where the files can't be taken, or are refused before it is known what stands at the
-- label.
abbrev pub IsUnreadReply : List PlainFile → (label : List ℕ) → List ℕ → ℕ → Type 0
IsUnreadReply files label text status =
    ((rule : Rule) × HasVerdict Lenient files (Load rule) × (text ≡ text_of files (Load rule))
    × (status ≡ status_of (Load rule)))
    ⊎ ((refusal : PlainRefusal) × IsRefusedBefore files label refusal
    × (text ≡ text_of files (Refused refusal)) × (status ≡ refusal_status refusal.rule))

-- The reply where no theorem is found at the label: what stands there isn't known, or is none.
abbrev pub IsNotFoundReply : List PlainFile → (label : List ℕ) → List ℕ → ℕ → Type 0
IsNotFoundReply files label text status =
    IsUnreadReply files label text status
    ⊎ ((rule : AskRule) × IsNoTheorem files label rule
    × IsAskReply (ask.Rule rule) label text status)

-- The proof of the `$p`, or what is known of it, is at fault: the lines of the steps before the
-- fault, the refusal, and what explains it: the first line, with the place, and the facts.
pub record IsKnownFault (telling : Telling) (files : List PlainFile) (before : List PlainStatement)
    (s : PlainStatement) (text : List ℕ) (status : ℕ) : Type 0 where
  pub rule : ProofRule
  pub step : ℕ
  pub fault : IsTokensFault Lenient (sentences before) (sentence_of s) (proof_of s) rule step
  pub lines : List ℕ
  pub shown : AreStepsBefore telling files (sentences before) (sentence_of s) s.proof step lines
  pub details : List Detail
  pub explained : AreDetails files Lenient (sentences before) (sentence_of s) s.proof rule step
      details
  pub at : ℕ
  pub place : IsFaultPlace Lenient (sentences before) s rule step at
  pub said :
      let refusal = refusal_of files (length before) s (rules.Proof rule) step in
      IsExplained (lines ++ text_of files (Refused refusal) ++ head_text files at refusal) details
      text
  pub ends : status ≡ refusal_status (rules.Proof rule)

-- The proof is incomplete, and its known prefix breaks no rule: the lines of the prefix's steps,
-- and what it leaves on the stack.
pub record IsCheckedPrefix (telling : Telling) (files : List PlainFile) (before : List Sentence)
    (s : Sentence) (tokens : List PlainToken) (text : List ℕ) (status : ℕ) : Type 0 where
  pub incomplete : is_incomplete (texts_of tokens) ≡ true
  pub allowed : IsPrefixAllowedUnder Lenient before s (texts_of tokens)
  pub lines : List ℕ
  pub shown : TellsMoves telling files before s tokens (checked_prefix (texts_of tokens)) lines
  pub details : List Detail
  pub left : AreLeftOver files Lenient before s tokens details
  pub said : IsExplained lines details text
  pub ends : status ≡ 3

-- the reply how the `$p` is proved, as far as that is known
abbrev pub IsKnownReply : Telling → List PlainFile → (before : List PlainStatement)
    → PlainStatement → List ℕ → ℕ → Type 0
IsKnownReply telling files before s text status =
    ((is_incomplete (proof_of s) ≡ false)
    × IsProvedUnder Lenient (sentences before) (sentence_of s) (proof_of s)
    × TellsMoves telling files (sentences before) (sentence_of s) s.proof (proof_of s) text
    × (status ≡ 0))
    ⊎ (IsCheckedPrefix telling files (sentences before) (sentence_of s) s.proof text status
    ⊎ IsKnownFault telling files before s text status)

-- the answer about the theorem with the label after those before it
abbrev pub IsLoneAnswer : LoneQuestion → List PlainFile → (label : List ℕ)
    → (before : List PlainStatement) → PlainStatement → List ℕ → ℕ → Type 0
IsLoneAnswer (Known telling) files label before s text status =
    IsKnownReply telling files before s text status
IsLoneAnswer KnownNormal files label before s text status =
    IsKnownNormalReply label before s text status
IsLoneAnswer (Try name proof) files label before s text status =
    IsTryReply (record { name = name.now; bytes = proof.now }) (sentences before) (sentence_of s)
    text status

-- the reply to a question about the theorem with a label alone
abbrev pub IsLoneReply : LoneQuestion → List PlainFile → (label : List ℕ) → List ℕ → ℕ → Type 0
IsLoneReply asked files label text status =
    IsNotFoundReply files label text status
    ⊎ ((before : List PlainStatement) × (s : PlainStatement) × IsTheoremAt files label before s
    × IsLoneAnswer asked files label before s text status)

-- ---- one statement

-- The text is the comment right before the first token of a statement, in its file: all its bytes,
-- from its `$(` to its `$)`, and the end of a line. Where no comment stands there it is empty.
abbrev pub IsCommentText : List PlainFile → PlainStatement → List ℕ → Type 0
IsCommentText files s text =
    ((start : ℕ) × (stop : ℕ) × IsCommentBefore (home_bytes files s) s.first.at start stop
    × (text ≡ slice_range (home_bytes files s) start (stop + 2) ++ codes "\n"))
    ⊎ (((start stop : ℕ) → ¬ (IsCommentBefore (home_bytes files s) s.first.at start stop))
    × (text ≡ []))

-- what is told first of a statement: if so it is asked, that comment
abbrev pub IsToldFirst : (comment : Bool) → List PlainFile → PlainStatement → List ℕ → Type 0
IsToldFirst true files s text = IsCommentText files s text
IsToldFirst false files s text = text ≡ []

-- The reply tells the statement with the label, over those before it, which break no rule of meaning,
-- and before that, if so it is asked, its comment. What stands behind it, and how anything is proved,
-- is left open.
abbrev pub IsStatementText : (comment : Bool) → List PlainFile → (label : List ℕ) → List ℕ → ℕ
    → Type 0
IsStatementText comment files label text status =
    (before : List PlainStatement) × (s : PlainStatement) × (first told : List ℕ)
    × IsReadTo files label before s × IsToldFirst comment files s first
    × TellsStatement files (before ++ s ∷ []) label told × (text ≡ first ++ told) × (status ≡ 0)

-- The reply to the question what stands at a label: it is told, or it isn't known; or no statement of
-- the files has the label, and none breaks a rule of meaning.
abbrev pub IsStatementReply : (comment : Bool) → List PlainFile → (label : List ℕ) → List ℕ → ℕ
    → Type 0
IsStatementReply comment files label text status =
    IsStatementText comment files label text status
    ⊎ (IsUnreadReply files label text status
    ⊎ (IsNoTheorem files label A1 × IsAskReply (ask.Rule A1) label text status))

-- ---- commands

-- a file that the command asks for by its number is one of those that are handed in, and a pattern
-- that it seeks has no more bytes than files may have
abbrev pub AsksHanded : List PlainFile → Command → Type 0
AsksHanded files (File form number) = number < length files
AsksHanded files (Shorter number duplicates) = number < length files
AsksHanded files (Find patterns whole shape hypotheses) =
    AllByRecursion (λ p. length p ≤ most_bytes) (texts patterns.now)
AsksHanded files command = Unit {0}

-- the reply to a question about the whole database, in the profile
abbrev pub IsWholeReply : WholeQuestion → Profile → List PlainFile → List ℕ → ℕ → Type 0
IsWholeReply Check profile files text status = IsReply profile files text status
IsWholeReply Faults profile files text status = IsFaultsReply profile files text status
IsWholeReply (Why source) profile files text status = IsWhyReply source profile files text status
IsWholeReply (AllAxioms essential) profile files text status =
    IsQuestionReply profile files (IsListAnswer (ListsAxioms essential) profile files) text status
IsWholeReply AllShorter profile files text status =
    IsQuestionReply profile files (IsListAnswer (ListsShorter profile files) profile files) text
    status

-- This is the text and the status of the reply to a command. Questions about a theorem, and those for
-- a file, are answered where the lenient profile accepts the files; those about a theorem alone, or
-- about a statement, where the statements up to it break no rule of meaning; and assertions are found,
-- and their users, where no statement does.
abbrev pub IsReplyTo : List PlainFile → Command → List ℕ → ℕ → Type 0
IsReplyTo files (Whole profile asked) text status = IsWholeReply asked profile files text status
IsReplyTo files (About label asked) text status = IsAboutReply asked files label.now text status
IsReplyTo files (Lone label asked) text status = IsLoneReply asked files label.now text status
IsReplyTo files (Statement label comment) text status =
    IsStatementReply comment files label.now text status
IsReplyTo files (File wanted number) text status =
    IsQuestionReply Lenient files (IsAllSavedReply wanted files number) text status
IsReplyTo files (Shorter number duplicates) text status =
    IsQuestionReply Lenient files (IsAllShortenedReply Lenient duplicates files number) text status
IsReplyTo files (Lemmas most least) text status = IsLemmasReply most least files text status
IsReplyTo files (Find patterns whole shape hypotheses) text status =
    IsFindReply (query_for (texts patterns.now) whole shape hypotheses) files text status

-- The reply's text was put after what the writer held, where that is known.
abbrev pub Writes : List PlainFile → Command → ℕ → Option (List ℕ) → Option (List ℕ) → Type 0
Writes files command status old new =
    (text : List ℕ) × IsReplyTo files command text status × Appends old new text

-- A proper beginning of the reply's text was.
abbrev pub WritesBeginningOf : List PlainFile → Command → Option (List ℕ) → Option (List ℕ) → Type 0
WritesBeginningOf files command old new =
    (text : List ℕ) × (status : ℕ) × IsReplyTo files command text status
    × AppendsBeginning old new text
