-- What is told with a note of its own: what mends a proof, and a file with lemmas.
use Rattle.std.specs.Prelude.{◌≡◌, ◌⊎◌, ◌≤◌, ℕ, List, [], ◌++◌, Option, Some, None, codes, map}
use Rattle.clap.specs.Words.{Text}
use Rattle.mm_text.specs.Files.{PlainFile, total_bytes}
use Rattle.mm_mend.specs.Reply.{IsMendReply}
use Rattle.mm_with_lemmas.specs.Reply.{IsLemmaFileReply}
use Rattle.mm_words.specs.declared.request.Request.{Request}
use Rattle.mm_words.specs.declared.request.Request.TheVariants.{LemmaFile, Mend}
use Rattle.mm_serve.specs.Answer.{Outcome, quiet}
use Rattle.mm_serve.specs.Folder.{AreHeld, AreTooLong, KnownFile}
use Rattle.mm_serve.specs.Notes.{AreNotesBeside}
use Rattle.mm_serve.specs.declared.noted.Wanted.{Wanted}
use Rattle.mm_serve.specs.declared.noted.Wanted.TheVariants as wanted

-- what is wanted, as a request
abbrev pub request_in : Wanted → Request
request_in (wanted.Mend asked) = Mend asked.now
request_in (wanted.LemmaFile asked) = LemmaFile asked.now

-- the label about which it is asked, if one is
abbrev pub label_in : Request → Option Text
label_in (Mend asked) = Some asked.label.now
label_in other = None

-- the names of the files; none of what isn't told so
abbrev pub names_in : Request → List Text
names_in (Mend asked) = map (λ name. name.now) asked.names.items
names_in (LemmaFile asked) = map (λ name. name.now) asked.names.items
names_in other = []

-- this is the reply, and the note on it
abbrev pub IsNotedReply : Request → List PlainFile → List ℕ → ℕ → (note : List ℕ) → Type 0
IsNotedReply (Mend asked) files text status note = IsMendReply files asked.label.now text status note
IsNotedReply (LemmaFile asked) files text status note =
    IsLemmaFileReply files asked.file text status note
IsNotedReply other files text status note = ⊥

-- This is the reply, and the notes beside it: those on the files and on the label, and then its own.
abbrev pub IsNotedOutcome : Request → List PlainFile → List ℕ → Outcome → Type 0
IsNotedOutcome request files text outcome =
    (beside note : List ℕ) × IsNotedReply request files text outcome.status note
    × AreNotesBeside files (label_in request) text beside × (outcome.notes ≡ beside ++ note)

-- This is what is told over the files; or the reply that they hold too many bytes.
abbrev pub IsNotedReplyOver : (List ℕ → KnownFile) → Request → ℕ → List ℕ → Outcome → Type 0
IsNotedReplyOver holds request max text outcome =
    ((files : List PlainFile) × AreHeld holds (names_in request) files
    × (total_bytes files ≤ max) × IsNotedOutcome request files text outcome)
    ⊎ (AreTooLong holds (names_in request) max × (text ≡ codes "load F3\n")
    × (outcome ≡ quiet 4))
