-- What is told with a note of the files as they were read is told of the named ones.
use Rattle.std.proofs.Common.{◌≤◌, ℕ, List, inl, subst}
use Rattle.std.specs.List.{AllZip}
use Rattle.mm_text.specs.Files.{PlainFile, total_bytes}
use Rattle.mm_words.specs.declared.request.Request.{Request}
use Rattle.mm_serve.specs.Answer.{Outcome}
use Rattle.mm_serve.specs.Folder.{AreHeld, KnownFile}
use Rattle.mm_serve.specs.Noted.{IsNotedOutcome, IsNotedReplyOver, names_in}
use Rattle.mm_serve.specs.ReadFiles.{IsReadAs}
use Rattle.mm_serve.specs.declared.files.Comments.TheVariants.{Kept}
use Rattle.mm_serve.proofs.FilesRead.{same_files}

-- The files were read whole.
pub noted_whole : (holds : List ℕ → KnownFile) (request : Request) (max : ℕ)
    (files : List PlainFile)
    → ((wholes : List PlainFile) × AreHeld holds (names_in request) wholes
    × (total_bytes wholes ≤ max) × AllZip (IsReadAs Kept) wholes files)
    → (text : List ℕ) (outcome : Outcome) → IsNotedOutcome request files text outcome
    → IsNotedReplyOver holds request max text outcome
noted_whole holds request max files (wholes, held, within, reads) text outcome told =
    inl (
      wholes,
      held,
      within,
      subst (λ (l : List PlainFile). IsNotedOutcome request l text outcome)
          (same_files wholes files reads) told,
    )
