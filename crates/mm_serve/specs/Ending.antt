-- How the program ends: with an answer on standard output and its status, or with a line on
-- standard error.
use Rattle.std.specs.Prelude.{◌≡◌, ℕ, ◌+◌, ◌<◌, ◌≤◌, length, List, [], ◌∷◌, ◌++◌, Option}
use Rattle.std.specs.Prelude.{codes, false}
use Rattle.std.specs.Prelude.{string_bytes, ◌⊎◌, Bool, Some, None, nat_eq, option_map, if◌then◌else◌}
use Rattle.std.specs.Borrow.{Bor}
use Rattle.std.specs.List.{ends_with}
use Rattle.std.specs.Str.{bytes_eq}
use Rattle.std.specs.Io.KnownBytes.{Appends}
use Rattle.mm_text.specs.Files.{PlainFile, total_bytes}
use Rattle.mm_text.specs.Device.{faults_of, inner_of, AppendsBeginning}
use Rattle.mm_text.specs.declared.counted.Counted.{Counted}
use Rattle.mm_check.specs.Reply.{IsReplyTo}
use Rattle.mm_rules.specs.Status.{number_of}
use Rattle.mm_minimize.specs.declared.search_watch.Searched.{Searched}
use Rattle.mm_minimize.specs.declared.search_watch.Searched.TheVariants.{Faulty}
use Rattle.mm_step.specs.declared.profile.Profile.TheVariants.{Lenient}
use Rattle.mm_verdict.specs.declared.question.Command.{Command}
use Rattle.mm_code.specs.Layout.{texts}
use Rattle.mm_verdict.specs.declared.question.Command.TheVariants.{Whole, About, File, Lone, Shorter}
use Rattle.mm_verdict.specs.declared.question.Command.TheVariants.{Find, Statement, Lemmas}
use Rattle.mm_verdict.specs.declared.question.Question.TheVariants.{Same, Users}
use Rattle.mm_verdict.specs.declared.question.WholeQuestion.TheVariants.{Check}
use Rattle.mm_verdict.specs.declared.question.LoneQuestion.TheVariants as lone
use Rattle.mm_words.specs.declared.request.TextQuestion.{TextQuestion}
use Rattle.mm_words.specs.declared.request.TextQuestion.TheVariants as of_text
use Rattle.mm_rules.specs.declared.status.Status.{Status}
use Rattle.mm_rules.specs.declared.status.Status.TheVariants as status
use Rattle.clap.specs.Words.{Text}
use Rattle.mm_serve.specs.Folder.{AreHeld, AreTooLong, IsHeld, IsUnreadable, KnownFile, MayHold}
use Rattle.mm_serve.specs.Answer.{Outcome, quiet}
use Rattle.mm_help.specs.Explained.{IsExplanation, IsUnknownCode}
use Rattle.mm_help.specs.Help.{IsHelp, IsUnknownCommand}
use Rattle.mm_words.specs.Unread.{unread_stop}
use Rattle.mm_serve.specs.Notes.{AreNotesBeside, refused_note, search_line}
use Rattle.mm_words.specs.Words.{AsksHelp, AsksVersion, AsksExplain, AsksRun, AsksText, Asks}
use Rattle.mm_words.specs.Words.{AsksDiff}
use Rattle.mm_words.specs.RefusedWords.{AreRefusedWords}
use Rattle.mm_words.specs.declared.request.Request.{Request}
use Rattle.mm_serve.specs.Noted.{IsNotedReplyOver, label_in, names_in}
use Rattle.mm_serve.specs.Versions.{IsDiffReplyOver, IsVersionUnreadable}
use Rattle.mm_words.specs.declared.arguments.ArgumentFault.{ArgumentFault}
use Rattle.mm_words.specs.declared.arguments.ArgumentFault.TheVariants as argument
use Rattle.mm_serve.specs.declared.progress_line.ProgressLine.{ProgressLine}
use Rattle.mm_help.specs.declared.texts.Texts.{Texts}
use Rattle.mm_words.specs.declared.stop.Stop.{Stop}
use Rattle.mm_words.specs.declared.stop.Stop.TheVariants.{Usage, NotText, CannotRead, CannotWrite}
use Rattle.mm_words.specs.declared.stop.Stop.TheVariants.{Memory}

-- ---- devices

-- The device took these bytes, and none of its calls failed.
abbrev pub TakesWhole : {W : Type 0} → (W → Option (List ℕ)) → List ℕ → Counted W → Counted W
    → Type 0
TakesWhole contents text old new =
    Appends (contents (inner_of old)) (contents (inner_of new)) text
    × (faults_of new ≡ faults_of old)

-- It took a proper beginning of these bytes, and one of its calls failed.
abbrev pub BreaksOff : {W : Type 0} → (W → Option (List ℕ)) → List ℕ → Counted W → Counted W
    → Type 0
BreaksOff contents text old new =
    AppendsBeginning (contents (inner_of old)) (contents (inner_of new)) text
    × (faults_of new ≡ faults_of old + 1)

-- The device is as it was, and no call to it failed.
abbrev pub IsUntouched : {W : Type 0} → Counted W → Counted W → Type 0
IsUntouched old new = (inner_of new ≡ inner_of old) × (faults_of new ≡ faults_of old)

-- Where progress isn't shown, the line and its device are as they were.
abbrev pub StaysUnshown : {P : Type 0} → ProgressLine P → ProgressLine P → Type 0
StaysUnshown old new = old.is_shown ≡ false → new ≡ old

-- ---- answers

-- the label that a command asks about
abbrev pub label_of : Command → Option Text
label_of (Whole profile question) = None
label_of (About label question) = Some label.now
label_of (Lone label question) = Some label.now
label_of (Statement label comment) = Some label.now
label_of (File form number) = None
label_of (Shorter number duplicates) = None
label_of (Lemmas most least) = None
label_of (Find patterns whole shape hypotheses) = None

-- Where proofs are at fault, the line that says why the database is refused; else nothing.
abbrev pub IsFaultyNote : List PlainFile → Option Searched → (line : List ℕ) → Type 0
IsFaultyNote files (Some Faulty) line =
    (text : List ℕ) × (status : ℕ) × IsReplyTo files (Whole Lenient Check) text status
    × (line ≡ refused_note text)
IsFaultyNote files searched line = line ≡ []

-- Of a command for users this line; of another nothing.
abbrev pub IsRefusedNote : List PlainFile → Command → Option Searched → (line : List ℕ) → Type 0
IsRefusedNote files (About label (Users all)) searched line = IsFaultyNote files searched line
IsRefusedNote files command searched line = line ≡ []

-- These are the notes beside the reply to the command, then the line on what a search came to, and
-- why the database is refused where users are told all the same. What it came to isn't said.
pub record AreAllNotes (files : List PlainFile) (command : Command) (reply notes : List ℕ)
    : Type 0 where
  pub beside : List ℕ
  pub searched : Option Searched
  pub are_beside : AreNotesBeside files (label_of command) reply beside
  pub refused : List ℕ
  pub is_refused : IsRefusedNote files command searched refused
  pub whole : notes ≡ (beside ++ search_line command searched) ++ refused

-- This is the reply to the command over the files with these names, with the notes beside it; or
-- the one that says that they hold too many bytes.
abbrev pub IsReplyOver : (List ℕ → KnownFile) → Command → List Text → ℕ → List ℕ → Outcome → Type 0
IsReplyOver holds command names max text outcome =
    ((files : List PlainFile) × AreHeld holds names files × (total_bytes files ≤ max)
    × IsReplyTo files command text outcome.status
    × AreAllNotes files command text outcome.notes)
    ⊎ (AreTooLong holds names max × (text ≡ codes "load F3\n") × (outcome ≡ quiet 4))

-- the command asks this about the text in this file and the theorem with this label; of a text that
-- is tried it also has the file's name
abbrev pub IsTextCommand : TextQuestion → (label : List ℕ) → (proof : PlainFile) → Command → Type 0
IsTextCommand of_text.Same label proof (About asked (Same given)) =
    (asked.now ≡ label) × (given.now ≡ proof.bytes)
IsTextCommand of_text.Try label proof (Lone asked (lone.Try name given)) =
    (asked.now ≡ label) × (name.now ≡ proof.name) × (given.now ≡ proof.bytes)
IsTextCommand question label proof other = ⊥

-- The file with the proof was read, and holds no more bytes than it may.
abbrev pub IsProofRead : (List ℕ → KnownFile) → (proof : Text) → ℕ → PlainFile → Type 0
IsProofRead holds proof max given =
    (given.name ≡ proof) × IsHeld holds given × (length given.bytes ≤ max)

-- This is the reply to the question about the text in the file with this name and the theorem with
-- this label, or the one that says that the text holds too many bytes.
abbrev pub IsTextReplyOver : TextQuestion → (List ℕ → KnownFile) → (label proof : Text) → List Text
    → ℕ → List ℕ → Outcome → Type 0
IsTextReplyOver question holds label proof names max text outcome =
    (MayHold (holds proof) (λ all. max < length all) × (text ≡ codes "text F3 0\n")
    × (outcome ≡ quiet 4))
    ⊎ ((given : PlainFile) × IsProofRead holds proof max given
    × (command : Command) × IsTextCommand question label given command
    × IsReplyOver holds command names max text outcome)

-- This text answers the words, with this status and these notes.
abbrev pub AnswersWords : (List ℕ → KnownFile) → Texts → ℕ → List Text → List ℕ → Outcome → Type 0
AnswersWords holds texts max words text outcome =
    ((topic : Option Text) × AsksHelp words topic × IsHelp texts topic text × (outcome ≡ quiet 0))
    ⊎ ((AsksVersion words × (text ≡ texts.version.now) × (outcome ≡ quiet 0))
    ⊎ (((asked : List Text) × AsksExplain words asked × IsExplanation texts asked text
    × (outcome ≡ quiet 0))
    ⊎ (((command : Command) × (names : List Text) × AsksRun words command names
    × IsReplyOver holds command names max text outcome)
    ⊎ (((question : TextQuestion) × (label proof : Text) × (names : List Text)
    × AsksText question words label proof names
    × IsTextReplyOver question holds label proof names max text outcome)
    ⊎ (((old new : List Text) × AsksDiff words old new
    × IsDiffReplyOver holds old new max text outcome)
    ⊎ ((request : Request) × Asks words request
    × IsNotedReplyOver holds request max text outcome))))))

-- ---- ends without an answer

-- the status of an end without an answer: 2 where the words aren't understood, else 4
abbrev pub stop_status : Stop → Status
stop_status (Usage text) = status.Usage
stop_status NotText = status.Usage
stop_status (CannotRead name label) = status.Stopped
stop_status CannotWrite = status.Stopped
stop_status Memory = status.Stopped

-- where the file `-` can't be read, how standard input is named
abbrev pub input_line : (name : Text) → List ℕ
input_line name =
    if bytes_eq name (codes "-") then codes "mm: the name of standard input is /dev/stdin\n" else []

-- a word looks like a file's name: it ends in `.mm`
abbrev pub looks_like_file : Text → Bool
looks_like_file word = ends_with nat_eq word (codes ".mm")

-- where the word that was taken for the label looks like a file's name, which word was taken for
-- what
abbrev pub order_line : (name : Text) → (label : Option Text) → List ℕ
order_line name None = []
order_line name (Some label) = if looks_like_file label
    then codes "mm: " ++ label ++ codes " was taken for the label, and "
    ++ name ++ codes " for a file: the label comes first\n" else []

-- what is said where the file with this name can't be read, and this word was taken for the label
abbrev pub unread_lines : (name : Text) → (label : Option Text) → List ℕ
unread_lines name label =
    codes "mm: cannot read " ++ name ++ codes "\n" ++ input_line name ++ order_line name label

-- what is said of it on standard error
abbrev pub error_line : Stop → List ℕ
error_line (Usage text) = string_bytes text
error_line NotText = codes "mm: a word is not UTF-8\n"
error_line (CannotRead name label) = unread_lines name.now (option_map (λ l. l.now) label)
error_line CannotWrite = codes "mm: cannot write\n"
error_line Memory = codes "mm: out of memory\n"

-- The end is the same; where a file can't be read, the word that was taken for the label is told
-- too.
abbrev pub AddsLabel : (label : Option (Bor Text)) → Stop → Stop → Type 0
AddsLabel label (CannotRead name before) stop = stop ≡ CannotRead name label
AddsLabel label other stop = stop ≡ other

-- The command over the files with these names ended so, and that is what standard output shows of
-- it.
abbrev pub StopsRun : {O : Type 0} → (O → Option (List ℕ)) → (List ℕ → KnownFile)
    → (List ℕ → Type 0) → Command → List Text → ℕ
    → Stop → Counted O → Counted O → Type 0
StopsRun contents holds may_fail command names max (CannotRead name label) old new =
    IsUnreadable holds may_fail names max name.now × IsUntouched old new
StopsRun contents holds may_fail command names max CannotWrite old new =
    (text : List ℕ) × (outcome : Outcome) × IsReplyOver holds command names max text outcome
    × BreaksOff contents text old new
StopsRun contents holds may_fail command names max Memory old new = IsUntouched old new
StopsRun contents holds may_fail command names max other old new = ⊥

-- The file with the proof couldn't be opened, or a read of it failed; or it was read, and then one
-- of the others couldn't be opened, or a read of that failed.
abbrev pub IsProofUnreadable : (List ℕ → KnownFile) → (List ℕ → Type 0) → (proof : Text)
    → List Text → ℕ → List ℕ → Type 0
IsProofUnreadable holds may_fail proof names max name =
    ((name ≡ proof) × may_fail proof)
    ⊎ ((given : PlainFile) × IsProofRead holds proof max given
    × IsUnreadable holds may_fail names max name)

-- The question about the proof in a file ended so, and that is what standard output shows of it.
abbrev pub StopsText : {O : Type 0} → TextQuestion → (O → Option (List ℕ)) → (List ℕ → KnownFile)
    → (List ℕ → Type 0) → (label proof : Text) → List Text → ℕ
    → Stop → Counted O → Counted O → Type 0
StopsText question contents holds may_fail label proof names max (CannotRead name told) old new =
    IsProofUnreadable holds may_fail proof names max name.now × IsUntouched old new
StopsText question contents holds may_fail label proof names max CannotWrite old new =
    (text : List ℕ) × (outcome : Outcome)
    × IsTextReplyOver question holds label proof names max text outcome
    × BreaksOff contents text old new
StopsText question contents holds may_fail label proof names max Memory old new =
    IsUntouched old new
StopsText question contents holds may_fail label proof names max other old new = ⊥

-- The question about two versions ended so, and that is what standard output shows of it.
abbrev pub StopsDiff : {O : Type 0} → (O → Option (List ℕ)) → (List ℕ → KnownFile)
    → (List ℕ → Type 0) → (before after : List Text) → ℕ
    → Stop → Counted O → Counted O → Type 0
StopsDiff contents holds may_fail before after max (CannotRead name told) old new =
    IsVersionUnreadable holds may_fail before after max name.now × (told ≡ None)
    × IsUntouched old new
StopsDiff contents holds may_fail before after max CannotWrite old new =
    (text : List ℕ) × (outcome : Outcome)
    × IsDiffReplyOver holds before after max text outcome × BreaksOff contents text old new
StopsDiff contents holds may_fail before after max Memory old new = IsUntouched old new
StopsDiff contents holds may_fail before after max other old new = ⊥

-- The question what mends a proof, or the wish for a file with lemmas, ended so, and that is what
-- standard output shows of it.
abbrev pub StopsNoted : {O : Type 0} → (O → Option (List ℕ)) → (List ℕ → KnownFile)
    → (List ℕ → Type 0) → Request → ℕ → Stop → Counted O → Counted O → Type 0
StopsNoted contents holds may_fail request max (CannotRead name told) old new =
    IsUnreadable holds may_fail (names_in request) max name.now
    × (option_map (λ l. l.now) told ≡ label_in request) × IsUntouched old new
StopsNoted contents holds may_fail request max CannotWrite old new =
    (text : List ℕ) × (outcome : Outcome)
    × IsNotedReplyOver holds request max text outcome × BreaksOff contents text old new
StopsNoted contents holds may_fail request max Memory old new = IsUntouched old new
StopsNoted contents holds may_fail request max other old new = ⊥

-- The words have no answer, and that is what standard output shows of it.
abbrev pub Stops : {O : Type 0} → (O → Option (List ℕ)) → (List ℕ → KnownFile)
    → (List ℕ → Type 0) → Texts → ℕ → List Text
    → Stop → Counted O → Counted O → Type 0
Stops contents holds may_fail texts max words (Usage text) old new =
    (AreRefusedWords words
    ⊎ (((asked : List Text) × AsksExplain words asked × IsUnknownCode texts asked)
    ⊎ ((topic : Option Text) × AsksHelp words topic × IsUnknownCommand texts topic)))
    × IsUntouched old new
Stops contents holds may_fail texts max words NotText old new = ⊥
Stops contents holds may_fail texts max words (CannotRead name told) old new =
    (((command : Command) × (names : List Text) × AsksRun words command names
    × IsUnreadable holds may_fail names max name.now
    × (option_map (λ l. l.now) told ≡ label_of command))
    ⊎ (((question : TextQuestion) × (label proof : Text) × (names : List Text)
    × AsksText question words label proof names
    × IsProofUnreadable holds may_fail proof names max name.now
    × (option_map (λ l. l.now) told ≡ Some label))
    ⊎ (((before after : List Text) × AsksDiff words before after
    × IsVersionUnreadable holds may_fail before after max name.now × (told ≡ None))
    ⊎ ((request : Request) × Asks words request
    × IsUnreadable holds may_fail (names_in request) max name.now
    × (option_map (λ l. l.now) told ≡ label_in request)))))
    × IsUntouched old new
Stops contents holds may_fail texts max words CannotWrite old new =
    (text : List ℕ) × (outcome : Outcome) × AnswersWords holds texts max words text outcome
    × BreaksOff contents text old new
Stops contents holds may_fail texts max words Memory old new = IsUntouched old new

-- ---- ends

-- The line was written, or a beginning of it, where a call failed.
abbrev pub TellsLine : {E : Type 0} → (E → Option (List ℕ)) → List ℕ → Counted E → Counted E
    → Type 0
TellsLine contents line old new = TakesWhole contents line old new ⊎ BreaksOff contents line old new

-- The notes were told, or a beginning of them, where a call failed. Where there are none, standard
-- error wasn't called.
abbrev pub TellsNotes : {E : Type 0} → (E → Option (List ℕ)) → List ℕ → Counted E → Counted E
    → Type 0
TellsNotes contents [] old new = IsUntouched old new
TellsNotes contents (byte ∷ bytes) old new = TellsLine contents (byte ∷ bytes) old new

-- The words were answered, with this status, and standard error was told the notes, or a beginning
-- of them where it failed.
pub record EndsAnswered {O E : Type 0} (contents : O → Option (List ℕ)) (said : E → Option (List ℕ))
    (holds : List ℕ → KnownFile) (texts : Texts) (max : ℕ)
    (words : List Text) (status : ℕ) (out out' : Counted O) (err err' : Counted E) : Type 0 where
  pub text : List ℕ
  pub notes : List ℕ
  pub answers : AnswersWords holds texts max words text (record { status = status; notes = notes })
  pub written : TakesWhole contents text out out'
  pub noted : TellsNotes said notes err err'

-- They weren't, for this reason, and standard error was told.
pub record EndsStopped {O E : Type 0} (contents : O → Option (List ℕ)) (said : E → Option (List ℕ))
    (holds : List ℕ → KnownFile)
    (may_fail : List ℕ → Type 0) (texts : Texts) (max : ℕ) (words : List Text) (status : ℕ)
    (out out' : Counted O) (err err' : Counted E)
    : Type 0 where
  pub stop : Stop
  pub stops : Stops contents holds may_fail texts max words stop out out'
  pub ends : number_of (stop_status stop) ≡ status
  pub told : TellsLine said (error_line stop) err err'

-- How the program ends with these words.
abbrev pub Ends : {O E : Type 0} → (O → Option (List ℕ)) → (E → Option (List ℕ))
    → (List ℕ → KnownFile) → (List ℕ → Type 0) → Texts
    → ℕ → List Text → ℕ → Counted O → Counted O → Counted E → Counted E → Type 0
Ends contents said holds may_fail texts max words status out out' err err' =
    EndsAnswered contents said holds texts max words status out out' err err'
    ⊎ EndsStopped contents said holds may_fail texts max words status out out' err err'

-- The words weren't all read: one may not be UTF-8, or memory ran out.
pub record EndsWithoutWords {O E : Type 0} (said : E → Option (List ℕ)) (may_fail : Type 0)
    (status : ℕ) (out out' : Counted O)
    (err err' : Counted E) : Type 0 where
  pub stop : Stop
  pub fault : ArgumentFault
  pub cause : fault ≡ argument.NotText → may_fail
  pub reason : stop ≡ unread_stop fault
  pub silent : IsUntouched out out'
  pub ends : number_of (stop_status stop) ≡ status
  pub told : TellsLine said (error_line stop) err err'
