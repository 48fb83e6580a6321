-- How two versions of a database are read, and what is told of them.
use Rattle.std.specs.Prelude.{◌≡◌, ◌⊎◌, ◌≤◌, ℕ, List, ◌++◌, codes}
use Rattle.clap.specs.Words.{Text}
use Rattle.mm_text.specs.Files.{PlainFile, total_bytes}
use Rattle.mm_step.specs.declared.profile.Profile.TheVariants.{Lenient}
use Rattle.mm_diff.specs.Reply.{IsDiffReply}
use Rattle.mm_serve.specs.Answer.{Outcome, quiet}
use Rattle.mm_serve.specs.Folder.{AreHeld, AreTooLong, IsUnreadable, KnownFile}
use Rattle.mm_serve.specs.Notes.{AreNotesOn}
use Rattle.mm_serve.specs.declared.files.FileFault.{FileFault}
use Rattle.mm_serve.specs.declared.files.FileFault.TheVariants as fault

-- These are the files with the names, and hold no more bytes than they may.
abbrev pub AreTaken : (List ℕ → KnownFile) → List Text → ℕ → List PlainFile → Type 0
AreTaken holds names max files = AreHeld holds names files × (total_bytes files ≤ max)

-- One of the old files, or after these one of the new ones, couldn't be opened, or a read of it
-- failed.
abbrev pub IsVersionUnreadable : (List ℕ → KnownFile) → (List ℕ → Type 0) → (old new : List Text)
    → ℕ → List ℕ → Type 0
IsVersionUnreadable holds may_fail old new max name =
    IsUnreadable holds may_fail old max name
    ⊎ ((before : List PlainFile) × AreTaken holds old max before
    × IsUnreadable holds may_fail new max name)

-- The old files hold more bytes than they may, or after these the new ones do.
abbrev pub IsVersionTooLong : (List ℕ → KnownFile) → (old new : List Text) → ℕ → Type 0
IsVersionTooLong holds old new max =
    AreTooLong holds old max
    ⊎ ((before : List PlainFile) × AreTaken holds old max before × AreTooLong holds new max)

-- why not all files of both versions were read
abbrev pub IsVersionFault : (List ℕ → KnownFile) → (List ℕ → Type 0) → (old new : List Text) → ℕ
    → FileFault → Type 0
IsVersionFault holds may_fail old new max (fault.CannotRead name) =
    IsVersionUnreadable holds may_fail old new max name.now
IsVersionFault holds may_fail old new max fault.TooLong = IsVersionTooLong holds old new max
IsVersionFault holds may_fail old new max fault.Memory = Unit {0}

-- These are the notes on the files of two versions: those on the old ones, then those on the new
-- ones.
abbrev pub AreNotesOnBoth : (old new : List PlainFile) → List ℕ → Type 0
AreNotesOnBoth old new notes =
    (first second : List ℕ) × AreNotesOn old first × AreNotesOn new second
    × (notes ≡ first ++ second)

-- This is what is told of the versions in the files with these names, under the lenient profile,
-- with the notes beside it; or the reply that the files of one hold too many bytes.
abbrev pub IsDiffReplyOver : (List ℕ → KnownFile) → (old new : List Text) → ℕ → List ℕ → Outcome
    → Type 0
IsDiffReplyOver holds old new max text outcome =
    ((before after : List PlainFile) × AreTaken holds old max before × AreTaken holds new max after
    × IsDiffReply Lenient before after text outcome.status
    × AreNotesOnBoth before after outcome.notes)
    ⊎ (IsVersionTooLong holds old new max × (text ≡ codes "load F3\n") × (outcome ≡ quiet 4))
