-- The reply to `mm lemmas --all`, and the notes beside it, which are this project's own.
use Rattle.std.specs.Prelude.{◌≡◌, ◌⊎◌, ℕ, List, [], ◌++◌, length, Bool, true, false, nat_lt, codes}
use Rattle.mm_base.specs.Statement.{PlainStatement}
use Rattle.mm_text.specs.Files.{PlainFile}
use Rattle.mm_step.specs.declared.profile.Profile.TheVariants.{Lenient}
use Rattle.mm_rules.specs.Places.{bytes_of, name_of}
use Rattle.mm_rules.specs.declared.rule.Rule.{Rule}
use Rattle.mm_rules.specs.Verdict.{AreAccepted, HasVerdict, Load, PlainRefusal, Refused, Verdict}
use Rattle.mm_verdict.specs.Reply.{refusal_status, status_of, text_of}
use Rattle.mm_with_lemmas.specs.WithLemmas.{IsWithLemmas}

-- ---- the notes

-- whether the file is smaller than it was
abbrev pub none_note : (smaller : Bool) → List ℕ
none_note true = []
none_note false = codes "mm: note: no lemma makes the file smaller\n"

-- whether the search was broken off
abbrev pub cut_note : (cut : Bool) → List ℕ
cut_note true = codes "mm: note: the search was broken off, as it took too long\n"
cut_note false = []

-- the file that was made for the one with the name isn't known to be one with lemmas
abbrev pub unsure_note : (name : List ℕ) → List ℕ
unsure_note name = codes "mm: the file that was made may not stand for " ++ name ++ codes "\n"

-- ---- the reply

-- The lenient profile refuses the files, and this is the text and the status of the refusal.
abbrev pub IsRefusal : List PlainFile → (text : List ℕ) → (status : ℕ) → Type 0
IsRefusal files text status =
    ((rule : Rule) × HasVerdict Lenient files (Load rule) × (text ≡ text_of files (Load rule))
    × (status ≡ status_of (Load rule)))
    ⊎ ((refusal : PlainRefusal) × HasVerdict Lenient files (Refused refusal)
    × (text ≡ text_of files (Refused refusal)) × (status ≡ refusal_status refusal.rule))

-- The text is the bytes of the file with the number, with lemmas, where the files hold these
-- statements; the status is that of the verdict over these. The notes tell whether it is smaller,
-- and whether the search was broken off.
pub record TellsFile (files : List PlainFile) (statements : List PlainStatement) (number : ℕ)
    (text : List ℕ) (status : ℕ) (note : List ℕ) : Type 0 where
  pub holds : IsWithLemmas Lenient files statements number text
  pub verdict : Verdict
  pub judged : HasVerdict Lenient files verdict
  pub ends : status ≡ status_of verdict
  pub cut : Bool
  pub noted : note ≡ none_note (nat_lt (length text) (length (bytes_of files number)))
      ++ cut_note cut

-- What was made isn't known to be such a file.
pub record IsUnsure (files : List PlainFile) (number : ℕ) (text : List ℕ) (status : ℕ)
    (note : List ℕ) : Type 0 where
  pub none : text ≡ []
  pub ends : status ≡ 4
  pub noted : note ≡ unsure_note (name_of files number)

-- the answer for the file with the number, where the files hold these statements
abbrev pub IsFileAnswer : List PlainFile → List PlainStatement → (number : ℕ) → (text : List ℕ)
    → (status : ℕ) → (note : List ℕ) → Type 0
IsFileAnswer files statements number text status note =
    TellsFile files statements number text status note
    ⊎ IsUnsure files number text status note

-- The reply for the file with the number, and the notes beside it.
abbrev pub IsLemmaFileReply : List PlainFile → (number : ℕ) → (text : List ℕ) → (status : ℕ)
    → (note : List ℕ) → Type 0
IsLemmaFileReply files number text status note =
    (IsRefusal files text status × (note ≡ []))
    ⊎ ((statements : List PlainStatement) × AreAccepted Lenient files statements
    × IsFileAnswer files statements number text status note)
