-- The notes on files that were handed in and not included, on a label that no statement has, and on
-- what a search for shorter proofs, or for lemmas, came to.
use Rattle.std.specs.Prelude.{◌≡◌, ℕ, ◌-◌, ◌==◌, List, [], ◌∷◌, ◌++◌, length, map, take, codes}
use Rattle.std.specs.Prelude.{decimal}
use Rattle.std.specs.Prelude.{if◌then◌else◌, Option, Some, None, ◌⊎◌}
use Rattle.std.specs.List.{flat_map}
use Rattle.clap.specs.Words.{Text}
use Rattle.mm_text.specs.declared.fault.LoadRule.{LoadRule}
use Rattle.mm_text.specs.Files.{BreaksLoad, PlainFile}
use Rattle.mm_text.specs.Included.{left_out}
use Rattle.mm_near.specs.Near.{joined}
use Rattle.mm_explain.specs.Near.{AreNearestIn}
use Rattle.mm_rules.specs.declared.ask.AskFault.TheVariants.{Rule}
use Rattle.mm_rules.specs.declared.rule.AskRule.TheVariants.{A1}
use Rattle.mm_rules.specs.Places.{name_of}
use Rattle.mm_minimize.specs.declared.search_watch.Searched.{Searched}
use Rattle.mm_minimize.specs.declared.search_watch.Searched.TheVariants as of_search
use Rattle.mm_verdict.specs.declared.question.Command.{Command}
use Rattle.mm_verdict.specs.declared.question.Command.TheVariants as commands
use Rattle.mm_verdict.specs.declared.question.Question.TheVariants.{Minimized, Users}
use Rattle.mm_verdict.specs.declared.question.WholeQuestion.TheVariants as questions
use Rattle.mm_verdict.specs.Reply.{IsAskReply}

-- the line on a file that wasn't included
abbrev pub note_of : (name : Text) → List ℕ
note_of name =
    codes "mm: note: " ++ (name ++ codes " was not included, so nothing in it was checked\n")

-- the line on so many more files
abbrev pub more_note : ℕ → List ℕ
more_note count =
    codes "mm: note: " ++ (decimal count ++ codes " more files were not included\n")

-- the line on how many more files there are; nothing where there are no more
abbrev pub count_note : ℕ → List ℕ
count_note count =
    if count == 0 then []
    else if count == 1 then codes "mm: note: 1 more file was not included\n"
    else more_note count

-- the notes on files with these names: a line on each of the first three, and one on how many more
-- there are
abbrev pub notes_on : List Text → List ℕ
notes_on names = flat_map note_of (take 3 names) ++ count_note (length names - 3)

-- These are the names of the files that weren't included, in their order. Of files that can't be
-- taken as a whole nothing was included at all, and none is named.
pub record AreLeftOut (files : List PlainFile) (names : List Text) : Type 0 where
  pub whole : ((rule : LoadRule) → ¬ BreaksLoad files rule)
      → names ≡ map (name_of files) (left_out files)
  pub broken : (rule : LoadRule) → BreaksLoad files rule → names ≡ []

-- These are the notes on the files.
abbrev pub AreNotesOn : List PlainFile → List ℕ → Type 0
AreNotesOn files notes = (names : List Text) × AreLeftOut files names × (notes ≡ notes_on names)

-- how the line on near labels begins
abbrev pub near_beginning : (near : List (List ℕ)) → List ℕ
near_beginning (label ∷ []) = codes "mm: the nearest label is "
near_beginning near = codes "mm: the nearest labels are "

-- the line on near labels, if there are such
abbrev pub near_line : (near : List (List ℕ)) → List ℕ
near_line [] = []
near_line (label ∷ more) =
    near_beginning (label ∷ more) ++ (joined (label ∷ more) ++ codes "\n")

-- This is said beside the reply to a command that asks about this label: where the reply is that no
-- statement has it, the nearest labels of statements; else nothing.
abbrev pub IsNearLine : List PlainFile → (asked : Option Text) → (reply line : List ℕ) → Type 0
IsNearLine files None reply line = line ≡ []
IsNearLine files (Some label) reply line =
    (((status : ℕ) → ¬ (IsAskReply (Rule A1) label reply status)) × (line ≡ []))
    ⊎ ((status : ℕ) × IsAskReply (Rule A1) label reply status
    × (near : List (List ℕ)) × AreNearestIn files label near × (line ≡ near_line near))

-- These are the notes beside the reply: those on the files, and then the one on near labels.
pub record AreNotesBeside (files : List PlainFile) (asked : Option Text) (reply notes : List ℕ)
    : Type 0 where
  pub on_files : List ℕ
  pub near : List ℕ
  pub files_noted : AreNotesOn files on_files
  pub label_noted : IsNearLine files asked reply near
  pub whole : notes ≡ on_files ++ near

-- the line on so many theorems that were left as they are
abbrev pub many_left_note : ℕ → List ℕ
many_left_note count =
    codes "mm: note: " ++ (decimal count
    ++ codes " theorems are left as they are: their proofs are too long to search\n")

-- the line on how many theorems were left as they are; nothing where none was
abbrev pub left_note : ℕ → List ℕ
left_note count =
    if count == 0 then []
    else if count == 1
    then codes "mm: note: 1 theorem is left as it is: its proof is too long to search\n"
    else many_left_note count

-- a number before and after, each behind a text
abbrev pub change_text : (first : List ℕ) → ℕ → (second : List ℕ) → ℕ → List ℕ
change_text first old second new = first ++ (decimal old ++ (second ++ decimal new))

-- the line on how many incomplete proofs don't count among users
abbrev pub incomplete_note : ℕ → List ℕ
incomplete_note count =
    if count == 1 then codes "mm: note: 1 incomplete proof isn't counted\n"
    else codes "mm: note: " ++ (decimal count ++ codes " incomplete proofs aren't counted\n")

-- the line that says why the database is refused, where users are told all the same: as `check`
-- tells it
abbrev pub refused_note : List ℕ → List ℕ
refused_note refusal = codes "mm: note: the database is refused: " ++ refusal

-- the line on what a search came to: how many theorems were left; or of one theorem the sizes of
-- its own proof and of a shorter one, if one was found; or that a search for lemmas was broken off;
-- or how many incomplete proofs don't count among users. That proofs are at fault has another line.
abbrev pub searched_line : Searched → List ℕ
searched_line (of_search.Left count) = left_note count
searched_line of_search.NoneShorter = codes "mm: no shorter proof was found\n"
searched_line (of_search.Shorter own new) =
    change_text (codes "mm: ") own.bytes (codes " bytes -> ") new.bytes
    ++ (change_text (codes ", ") own.steps (codes " steps -> ") new.steps ++ codes "\n")
searched_line of_search.BrokenOff =
    codes "mm: note: the search was broken off, as it took too long\n"
searched_line of_search.Faulty = []
searched_line (of_search.Incomplete count) = incomplete_note count

-- Of a command that searches for shorter proofs, for lemmas or for users, the line on what it came
-- to, where it came to something; of another nothing.
abbrev pub search_line : Command → Option Searched → List ℕ
search_line asked None = []
search_line (commands.Whole profile questions.Shorter) (Some searched) = searched_line searched
search_line (commands.About label (Minimized whole)) (Some searched) = searched_line searched
search_line (commands.About label (Users all)) (Some searched) = searched_line searched
search_line (commands.Shorter number duplicates) (Some searched) = searched_line searched
search_line (commands.Lemmas most least) (Some searched) = searched_line searched
search_line other (Some searched) = []
