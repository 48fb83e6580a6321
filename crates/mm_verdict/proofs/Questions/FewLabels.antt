-- The labels of accepted statements are few.
use Rattle.std.proofs.Common.{◌≡◌, ℕ, ◌<◌, ◌≤◌, List, length}
use Rattle.std.proofs.Common.{Bool, true, Some, refl}
use Rattle.std.proofs.Common.{arith}
use Rattle.mm_frame.specs.Numbers.{labelled_sentences}
use Rattle.mm_frame.specs.Sentence.{Sentence}
use Rattle.std.proofs.Common.{Option, None, count_by, is_some}
use Rattle.std.proofs.lemmas.List.{length-map}
use Rattle.std.proofs.lemmas.List.Sums.{length-filter, count_by-le-length}
use Rattle.mm_base.specs.Statement.{PlainStatement}
use Rattle.mm_text.specs.Files.{PlainFile}
use Rattle.mm_text.proofs.Reader.WholeReadings.{readings_few}
use Rattle.mm_frame.specs.Sentence.{sentence_of}
use Rattle.mm_step.specs.declared.profile.Profile.{Profile}
use Rattle.mm_rules.specs.Verdict.{AreAccepted, sentences}
use Rattle.mm_verdict.proofs.Verdicts.AcceptedStatements.{within_limit}

-- ==== the report of each theorem

-- labels are few
pub few_labels : (profile : Profile) (files : List PlainFile) (statements : List PlainStatement) → AreAccepted profile files statements
    → length (labelled_sentences (sentences statements)) < 4294967295
few_labels profile files statements accepted =
    let a = readings_few files statements None accepted.reads in
    let b = within_limit files accepted.readable in
    let test : Sentence → Bool = λ s. is_some s.label in
    let most : count_by test (sentences statements) ≤ length (sentences statements) = count_by-le-length test (sentences statements) in
    let same : length (labelled_sentences (sentences statements)) ≡ count_by test (sentences statements) = length-filter test (sentences statements) in
    let long : length (sentences statements) ≡ length statements = length-map statements sentence_of in
    omega arith

pub some_label : (o : Option (List ℕ)) → is_some o ≡ true → (l : List ℕ) × (o ≡ Some l)
some_label (Some l) h = (l, refl)
some_label None h = absurd cc
