-- Why the files aren't accepted: all their faults, each with what explains it. The explanations are
-- this project's own.
use Rattle.std.specs.Prelude.{◌≡◌, ℕ, ◌-◌, ◌==◌, if◌then◌else◌, List, [], ◌∷◌, ◌++◌, filter}
use Rattle.std.specs.Prelude.{take, length, not, Bool, Option, Some, None, codes}
use Rattle.std.specs.Prelude.{decimal}
use Rattle.std.specs.List.{flat_map, AllZip}
use Rattle.mm_base.specs.Statement.{PlainStatement}
use Rattle.mm_text.specs.Files.{PlainFile}
use Rattle.mm_text.specs.Reading.{PlainFault, Reads}
use Rattle.mm_frame.specs.Sentence.{Sentence, sentence_of}
use Rattle.mm_step.specs.declared.fault.ProofRule.{ProofRule}
use Rattle.mm_step.specs.declared.profile.Profile.{Profile}
use Rattle.mm_step.specs.declared.profile.Profile.TheVariants as profiles
use Rattle.mm_rules.specs.declared.rule.Rule.{Rule}
use Rattle.mm_rules.specs.declared.rule.Rule.TheVariants as rules
use Rattle.mm_rules.specs.RuleCodes.{code_of}
use Rattle.mm_rules.specs.Meanings.{meaning_of}
use Rattle.mm_rules.specs.ProofText.{proof_end, proof_tokens}
use Rattle.mm_rules.specs.Verdict.{PlainRefusal, sentences, proof_of}
use Rattle.mm_rules.specs.Faults.{IsProofRefusal}
use Rattle.mm_facts.specs.Explained.{Detail, AreDetails, details_text}
use Rattle.mm_groups.specs.Shared.{IsSharedLine}
use Rattle.mm_explain.specs.HypothesisPlaces.{AreHypothesisPlaces}
use Rattle.mm_explain.specs.LastFacts.{AreLastFacts}
use Rattle.mm_explain.specs.Later.{IsUnknownIn, stated_later}
use Rattle.mm_explain.specs.Source.{source_text}
use Rattle.mm_explain.specs.Unused.{AreUnused, unused_text}
use Rattle.mm_rules.specs.Places.{place_of, place_text}
use Rattle.mm_verdict.specs.Why.{is_of_proofs}
use Rattle.mm_facts.specs.Why.{IsFaultPlace, IsPlaceAmong}

-- ---- the first line of an explanation

-- in what it is: in a proof, or in another part of a statement
abbrev pub owner_words : Rule → List ℕ
owner_words (rules.Proof broken) = codes ", in the proof of "
owner_words rule = codes ", in "

-- that, with the statement's label; nothing where no label was read
abbrev pub owner_text : Rule → Option (List ℕ) → List ℕ
owner_text rule None = []
owner_text rule (Some label) = owner_words rule ++ label

-- the step at which it is; nothing where it is at none
abbrev pub step_text : ℕ → List ℕ
step_text step = if step == 0 then [] else (codes ", at step " ++ decimal step)

-- the line: the place of a position in one of the files, the rule's code and what is wrong, in what
-- it is, and at which step
abbrev pub head_at : List PlainFile → (file at : ℕ) → Rule → (label : Option (List ℕ)) → (step : ℕ)
    → List ℕ
head_at files file at rule label step =
    place_text files (place_of files file at) ++ codes ": " ++ code_of rule
    ++ codes ": " ++ meaning_of rule ++ owner_text rule label ++ step_text step
    ++ codes "\n"

-- that of a refusal, in its file
abbrev pub head_text : List PlainFile → (at : ℕ) → PlainRefusal → List ℕ
head_text files at r = head_at files r.file at r.rule r.label r.step

-- that, and where it is asked for the line of the file, with a mark
abbrev pub head_lines : (source : Bool) → List PlainFile → (at : ℕ) → PlainRefusal → List ℕ
head_lines source files at r = head_text files at r ++ source_text source files r.file at

-- that of the first fault of the proof in a text that is handed in, among its bytes, as one of the
-- `$p`
abbrev pub IsTextPlace : Profile → (before : List Sentence) → Sentence → (text : List ℕ)
    → ProofRule → (step : ℕ) → (at : ℕ) → Type 0
IsTextPlace profile before s text rule step at =
    IsPlaceAmong profile before s (proof_tokens text) (proof_end text) rule step at

-- ---- explanations

-- The text explains the refusal of a statement of the files for the fault of its proof: the head,
-- the facts, those of where hypotheses stand, the listed labels that no step is by, and where
-- a label that no earlier statement has is stated further down.
pub record IsExplanation (profile : Profile) (source : Bool) (files : List PlainFile)
    (refusal : PlainRefusal) (text : List ℕ) : Type 0 where
  pub before : List PlainStatement
  pub s : PlainStatement
  pub after : List PlainStatement
  pub ending : Option PlainFault
  pub reads : Reads files (before ++ s ∷ after) ending
  pub refused : IsProofRefusal profile files before s refusal
  pub at : ℕ
  pub place : IsFaultPlace profile (sentences before) s refused.rule refused.step at
  pub details : List Detail
  pub facts : AreDetails files profile (sentences before) (sentence_of s) s.proof refused.rule
      refused.step details
  pub places : List Detail
  pub stand : AreHypothesisPlaces files before s refused.rule refused.step places
  pub unused : List (List ℕ)
  pub by_none : AreUnused (sentences before) (sentence_of s) (proof_of s) refused.step unused
  pub label : Option (List ℕ)
  pub unknown : IsUnknownIn (sentences before) (proof_of s) refused.rule label
  pub said : text ≡ head_lines source files at refusal ++ details_text (details ++ places)
      ++ unused_text unused ++ details_text (stated_later files label after)

-- The text explains the refusal for the fault that ends the run: the head, and the facts.
pub record IsLastExplanation (source : Bool) (files : List PlainFile) (refusal : PlainRefusal)
    (text : List ℕ) : Type 0 where
  pub at : ℕ
  pub details : List Detail
  pub facts : AreLastFacts source files refusal at details
  pub said : text ≡ head_lines source files at refusal ++ details_text details

-- how many faults of proofs are explained, below a line that says what they share, or without it
abbrev pub most_explained : (line : List ℕ) → ℕ
most_explained [] = 10
most_explained line = 3

-- the question that lists them under the profile
abbrev pub listing_words : Profile → List ℕ
listing_words profiles.Strict = codes " more, which mm faults --strict lists\n"
listing_words profiles.Lenient = codes " more, which mm faults lists\n"

-- the line that tells how many faults of proofs aren't explained, if there are such
abbrev pub more_text : Profile → ℕ → List ℕ
more_text profile count =
    if count == 0 then [] else (codes "and " ++ decimal count ++ listing_words profile)

-- the last line, which tells how many faults there are
abbrev pub count_text : ℕ → List ℕ
count_text count =
    if count == 1 then codes "1 fault\n" else (decimal count ++ codes " faults\n")

-- The text tells these faults, which are all of proofs: what they share, if that is told, then the
-- first of them, each explained, and how many others there are.
pub record TellsProofs (profile : Profile) (source : Bool) (files : List PlainFile)
    (refusals : List PlainRefusal) (text : List ℕ) : Type 0 where
  pub line : List ℕ
  pub shared : IsSharedLine files refusals line
  pub explanations : List (List ℕ)
  pub each : AllZip (IsExplanation profile source files) (take (most_explained line) refusals)
      explanations
  pub said : text ≡ line ++ flat_map (λ t. t) explanations
      ++ more_text profile (length refusals - most_explained line)

-- The text tells these faults: it explains the one that ended the run, if one did, tells those of
-- proofs, and counts all.
pub record TellsFaults (profile : Profile) (source : Bool) (files : List PlainFile)
    (refusals : List PlainRefusal) (text : List ℕ) : Type 0 where
  pub last : List (List ℕ)
  pub ended : AllZip (IsLastExplanation source files)
      (filter (λ r. not (is_of_proofs r.rule)) refusals) last
  pub proofs : List ℕ
  pub told : TellsProofs profile source files (filter (λ r. is_of_proofs r.rule) refusals) proofs
  pub said : text ≡ flat_map (λ t. t) last ++ proofs ++ count_text (length refusals)
