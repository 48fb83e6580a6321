-- Laws of all faults of the files.
use Rattle.std.specs.Prelude.{◌≡◌, List, slice_get}
use Rattle.mm_text.specs.Files.{PlainFile}
use Rattle.mm_step.specs.declared.profile.Profile.{Profile}
use Rattle.mm_rules.specs.Verdict.{PlainRefusal, Verdict, HasVerdict}
use Rattle.mm_verdict.specs.Faults.{HaveFaults, refusal_in}

-- the first fault of all is the one that the verdict tells; there is none exactly where it tells none
abbrev pub FirstFaultIsTold : Type 0
FirstFaultIsTold =
    (profile : Profile) (files : List PlainFile) (refusals : List PlainRefusal) (verdict : Verdict)
    → HaveFaults profile files refusals → HasVerdict profile files verdict
    → slice_get refusals 0 ≡ refusal_in verdict
