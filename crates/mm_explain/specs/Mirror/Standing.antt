-- What the code knows of where hypotheses stand, as it looks through the statements before a proof
-- at fault. This file mirrors the code, and is cited by private contracts alone.
use Rattle.std.specs.Prelude.{◌≡◌, ℕ, List, [], ◌∷◌, ◌++◌, map, slice_get, Some}
use Rattle.std.specs.List.{AllZip}
use Rattle.mm_text.specs.Files.{PlainFile}
use Rattle.mm_base.specs.Statement.{PlainStatement}
use Rattle.mm_frame.specs.Numbers.{labelled_sentences}
use Rattle.mm_frame.specs.Sentence.{Sentence, sentence_of}
use Rattle.mm_step.specs.Steps.{IsProofNumber}
use Rattle.mm_facts.specs.Explained.{Detail, details_text}
use Rattle.mm_explain.specs.HypothesisPlaces.{IsHypothesisFact}
use Rattle.mm_explain.specs.Mirror.SemanticErrors.{Site}
use Rattle.mm_rules.specs.Verdict.{sentences}

-- The `$p` with the number stands in the files behind so many statements, and these are what they
-- and it say.
pub record IsPlaced (files : List PlainFile) (statements : List Sentence)
    (id count : ℕ) : Type 0 where
  pub site : Site files count
  pub told : statements ≡ sentences site.before ++ sentence_of site.s ∷ []
  pub number : IsProofNumber statements id count (sentence_of site.s)

-- These are the labelled statements with the numbers, which stand among those before a last one.
pub record AreEarlier (statements : List Sentence) (before : List PlainStatement)
    (numbers : List ℕ) (hypotheses : List Sentence) : Type 0 where
  pub last : Sentence
  pub told : statements ≡ sentences before ++ last ∷ []
  pub numbered :
      map (slice_get (labelled_sentences (sentences before))) numbers ≡ map Some hypotheses

-- the facts of these hypotheses were added
abbrev pub AddsEach : List PlainFile → (before : List PlainStatement) → List Sentence
    → (old new : List ℕ) → Type 0
AddsEach files before hypotheses old new =
    (each : List Detail) × AllZip (IsHypothesisFact files before) hypotheses each
    × (new ≡ old ++ details_text each)
