-- What checking a database comes to, as the reply to `mm diff` keeps it. This file mirrors the
-- code, and is cited by private contracts alone.
use Rattle.std.specs.Prelude.{◌≡◌, ℕ, List, None}
use Rattle.mm_base.specs.Statement.{PlainStatement}
use Rattle.mm_text.specs.Files.{PlainFile}
use Rattle.mm_text.specs.Reading.{Reads}
use Rattle.mm_rules.specs.Conclusion.{Conclusion}
use Rattle.mm_step.specs.declared.profile.Profile.{Profile}
use Rattle.mm_rules.specs.Status.{number_of}
use Rattle.mm_rules.specs.Verdict.{sentences}
use Rattle.mm_diff.specs.Diff.{AreChanges, PlainChanges, TellsChanges}
use Rattle.mm_diff.specs.Reply.{AreRefused, HaveYes}
use Rattle.mm_alike.specs.Mirror.Databases.{IsComplete}
use Rattle.mm_alike.specs.declared.database.Database.{Database}
use Rattle.mm_diff.specs.declared.reply.Outcome.{Outcome}
use Rattle.mm_diff.specs.declared.reply.Outcome.TheVariants.{Accepted, Refused}

-- the database is that of the files, which get yes
pub record IsOfFiles (profile : Profile) (files : List PlainFile)
    (database : Database) : Type 0 where
  pub statements : List PlainStatement
  pub yes : HaveYes profile files statements
  pub kept : database.checked.files ≡ files
  pub told : database.checked.sentences ≡ sentences statements
  pub complete : IsComplete database.checked database.homes.items

-- The database is that of the files, each proof of which is accepted; or this is the reply of
-- `check`.
abbrev pub IsOutcome : Profile → List PlainFile → Outcome → Type 0
IsOutcome profile files (Accepted database) = IsOfFiles profile files database
IsOutcome profile files (Refused reply) =
    AreRefused profile files reply.text.items (number_of reply.status)

-- what changed from the first database to the second
abbrev pub AreChangesIn : (c d : Conclusion) → PlainChanges → Type 0
AreChangesIn c d changes =
    (before after : List PlainStatement) → Reads c.files before None → Reads d.files after None
    → AreChanges before after changes

-- this is what is told of it
abbrev pub TellsChangesIn : (c d : Conclusion) → (text : List ℕ) → (status : ℕ) → Type 0
TellsChangesIn c d text status =
    (before after : List PlainStatement) → Reads c.files before None → Reads d.files after None
    → TellsChanges before after text status
