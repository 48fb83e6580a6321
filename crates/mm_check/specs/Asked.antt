-- What is answered over the statements of a database in which nothing is at fault.
use Rattle.std.specs.Prelude.{ℕ, ◌<◌, List}
use Rattle.mm_base.specs.Statement.{PlainStatement}
use Rattle.mm_text.specs.Files.{PlainFile}
use Rattle.mm_step.specs.declared.profile.Profile.{Profile}
use Rattle.mm_check.specs.declared.accepted.Asked.{Asked}
use Rattle.mm_check.specs.declared.accepted.Asked.TheVariants.{Verdict, Axioms, Shorter, About, File}
use Rattle.mm_check.specs.declared.accepted.Asked.TheVariants.{Lemmas}
use Rattle.mm_check.specs.Reply.{IsReply, IsAnswerTo, IsAllShortenedReply, IsListAnswer}
use Rattle.mm_check.specs.Reply.{ListsAxioms, ListsShorter}
use Rattle.mm_lemmas.specs.Told.{ListsLemmas}

-- the answer to what is asked, in the profile that the files obey
abbrev pub IsAnswerOver : Asked → Profile → List PlainFile → List PlainStatement → List ℕ → ℕ
    → Type 0
IsAnswerOver Verdict profile files statements text status = IsReply profile files text status
IsAnswerOver (Axioms essential) profile files statements text status =
    IsListAnswer (ListsAxioms essential) profile files statements text status
IsAnswerOver Shorter profile files statements text status =
    IsListAnswer (ListsShorter profile files) profile files statements text status
IsAnswerOver (About label question) profile files statements text status =
    IsAnswerTo profile question files label.now statements text status
IsAnswerOver (File wanted) profile files statements text status =
    IsAllShortenedReply profile wanted.duplicates files wanted.number statements text status
IsAnswerOver (Lemmas selection) profile files statements text status =
    IsListAnswer (ListsLemmas selection.most selection.least) profile files statements text status

-- a file that is asked for is one of so many
abbrev pub AsksWithin : Asked → ℕ → Type 0
AsksWithin (File wanted) count = wanted.number < count
AsksWithin asked count = Unit {0}
