-- The law of files that show the same: what comments say changes no reply to `check`.
use Rattle.std.specs.Prelude.{◌≤◌, ℕ, List}
use Rattle.std.specs.List.{AllZip}
use Rattle.mm_text.specs.Files.{PlainFile, total_bytes}
use Rattle.mm_base.specs.MostBytes.{most_bytes}
use Rattle.mm_text.specs.Alike.{AreAlike}
use Rattle.mm_step.specs.declared.profile.Profile.{Profile}
use Rattle.mm_check.specs.Reply.{IsReply}

-- files with the same names that show the same have the same reply to `check`, in each profile, as
-- long as neither has more bytes than files may have
abbrev pub AlikeFilesHaveOneReply : Type 0
AlikeFilesHaveOneReply =
    (profile : Profile) (files others : List PlainFile) → AllZip AreAlike files others
    → total_bytes files ≤ most_bytes → total_bytes others ≤ most_bytes
    → (text : List ℕ) (status : ℕ)
    → IsReply profile files text status → IsReply profile others text status
