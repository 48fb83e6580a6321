-- The lines of a listing that tells where each step stands and its letters. The clause of
-- `lettered_text` rests on it.
use Rattle.std.proofs.Common.{◌≡◌, ℕ, ◌+◌, ◌<◌, ◌≤◌, List, [], ◌∷◌, ◌++◌, length, slice_get}
use Rattle.std.proofs.Common.{Some, inl, inr, flat_map, decimal, refl, sym, ap, subst, ◌∙◌}
use Rattle.std.proofs.Common.{append_assoc, append-nil}
use Rattle.std.specs.List.{AllZip, AllByRecursion}
use Rattle.std.proofs.lemmas.List.{length-append}
use Rattle.std.proofs.lemmas.List.Concat.{flat_map-append}
use Rattle.std.proofs.lemmas.Option.{same_Some}
use Rattle.mm_base.proofs.Lists.{pushed_cases, zip_left, zip_length}
use Rattle.mm_base.specs.Token.{PlainToken}
use Rattle.mm_text.specs.Files.{PlainFile}
use Rattle.mm_code.specs.Words.{texts_of}
use Rattle.mm_frame.specs.Sentence.{Sentence}
use Rattle.mm_frame.specs.Numbers.{symbols_of}
use Rattle.mm_step.specs.Moves.{Move}
use Rattle.mm_step.specs.Stores.{numbers_in}
use Rattle.mm_proof.specs.Tokens.{SayMoves}
use Rattle.mm_proof.specs.CheckedPrefix.{checked_prefix}
use Rattle.mm_listing.specs.declared.lines.Line.{Line}
use Rattle.mm_listing.specs.Listing.{ListedStep, TellsStep}
use Rattle.mm_places.specs.declared.letters.StepLetters.{StepLetters}
use Rattle.mm_places.specs.StepLetters.{HasLetters, AreStepLetters}
use Rattle.mm_places.proofs.ProofPlaces.StepLetters.{letters_within}
use Rattle.mm_rules.specs.Answer.{labels_at}
use Rattle.mm_rules.specs.Shown.{symbols_text}
use Rattle.mm_rules.proofs.Numbers.{names_at, numbers_within}
use Rattle.mm_facts.specs.Explained.{judged_tokens}
use Rattle.mm_facts.specs.Lettered.{letters_text, IsLetteredLine, AreLetteredLines}
use Rattle.mm_facts.specs.StepTexts.{called_text, position_text, IsMovePosition}
use Rattle.mm_facts.specs.Mirror.Lettered.{line_text, HaveStepLetters, TellFirst}
use Rattle.mm_facts.proofs.FaultPlaces.{has_place}

-- ---- a line

-- its symbols have numbers
pub symbols_within : (statements : List Sentence) (line : Line) (step : ListedStep)
    → TellsStep statements line step
    → AllByRecursion (λ n. n < length (symbols_of statements)) (numbers_in line.expression.items)
symbols_within statements line step tells =
    numbers_within (symbols_of statements) (numbers_in line.expression.items) step.expression
    tells.pushed

-- number, place, letters, name, symbols and line feed, with a space between each two
pub line_told : (statements : List Sentence) (line : Line) (step : ListedStep)
    (files : List PlainFile) (number : ℕ) (position : ℕ × ℕ) (letters : List ℕ)
    (o₀ o₁ o₂ o₃ o₄ o₅ o₆ o₇ o₈ o₉ : List ℕ) → TellsStep statements line step
    → o₁ ≡ o₀ ++ decimal number → o₂ ≡ o₁ ++ 32 ∷ []
    → o₃ ≡ o₂ ++ position_text files position.0 position.1 → o₄ ≡ o₃ ++ 32 ∷ []
    → o₅ ≡ o₄ ++ letters_text letters → o₆ ≡ o₅ ++ 32 ∷ [] → o₇ ≡ o₆ ++ called_text step.called
    → o₈ ≡ o₇ ++ symbols_text (labels_at (symbols_of statements) (numbers_in line.expression.items))
    → o₉ ≡ o₈ ++ 10 ∷ [] → o₉ ≡ o₀ ++ line_text files number position letters step
line_told statements line step files number position letters o₀ o₁ o₂ o₃ o₄ o₅ o₆ o₇ o₈ o₉ tells
    h₁ h₂ h₃ h₄ h₅ h₆ h₇ h₈ h₉ =
    let symbols : labels_at (symbols_of statements) (numbers_in line.expression.items)
    ≡ step.expression =
    names_at (symbols_of statements) (numbers_in line.expression.items) step.expression
    tells.pushed in
    rw (h₉, h₈, h₇, h₆, h₅, h₄, h₃, h₂, h₁, symbols) (simp append_assoc)

-- ---- all lines

pub none_told : (files : List PlainFile) (tokens : List PlainToken) (steps : List ListedStep)
    → TellFirst files tokens steps 0 []
none_told files tokens steps = record {
  lines = [];
  many = refl;
  each = λ n step line at there. absurd cc;
  joined = refl;
}

-- one line more
pub one_more : (files : List PlainFile) (tokens : List PlainToken) (steps : List ListedStep)
    (count : ℕ) (old new line : List ℕ) (step : ListedStep) → TellFirst files tokens steps count old
    → slice_get steps count ≡ Some step → IsLetteredLine files tokens (count + 1) step line
    → new ≡ old ++ line → TellFirst files tokens steps (count + 1) new
one_more files tokens steps count old new line step first at is added = record {
  lines = first.lines ++ line ∷ [];
  many = length-append first.lines (line ∷ []) ∙ ap (λ (n : ℕ). n + 1) first.many;
  each = λ n other text there told.
      elim (pushed_cases first.lines line n text told) [
        | inl before ↦ first.each n other text there before
        | inr (place, same) ↦
            let here : n ≡ count = place ∙ first.many in
            let one : step ≡ other =
            same_Some step other (sym at ∙ ap (slice_get steps) (sym here) ∙ there) in
            subst (λ (l : List ℕ). IsLetteredLine files tokens (n + 1) other l) same
            (subst (λ (s : ListedStep). IsLetteredLine files tokens (n + 1) s line) one
            (subst (λ (k : ℕ). IsLetteredLine files tokens (k + 1) step line) (sym here) is))
      ];
  joined = added ∙ ap (λ (l : List ℕ). l ++ line) first.joined
      ∙ ap (λ (l : List ℕ). flat_map (λ (t : List ℕ). t) first.lines ++ l) (sym (append-nil line))
      ∙ sym (flat_map-append (λ (t : List ℕ). t) first.lines (line ∷ []));
}

-- all lines
pub all_told : (files : List PlainFile) (tokens : List PlainToken) (statements : List Sentence)
    (lines : List Line) (steps : List ListedStep) (count : ℕ) (text : List ℕ)
    → AllZip (TellsStep statements) lines steps → count ≡ length lines
    → TellFirst files tokens steps count text → AreLetteredLines files tokens steps text
all_told files tokens statements lines steps count text zip all first = record {
  lines = first.lines;
  many = first.many ∙ all ∙ zip_length (TellsStep statements) lines steps zip;
  each = first.each;
  joined = first.joined;
}

-- the line at a place tells a step, with its place and its letters
pub next_told : (files : List PlainFile) (tokens : List PlainToken) (statements : List Sentence)
    (lines : List Line) (steps : List ListedStep) (at : ℕ) (line : Line) (old new : List ℕ)
    (own : StepLetters) (position : ℕ × ℕ) → AllZip (TellsStep statements) lines steps
    → slice_get lines at ≡ Some line
    → HasLetters (judged_tokens (texts_of tokens)) (at + 1) own.index own.letters.items
    → IsMovePosition tokens own.index position.0 position.1
    → ((step : ListedStep) → TellsStep statements line step
    → new ≡ old ++ line_text files (at + 1) position own.letters.items step)
    → TellFirst files tokens steps at old → TellFirst files tokens steps (at + 1) new
next_told files tokens statements lines steps at line old new own position zip there spelled place
    added first =
    let (step, stands, tells) = zip_left (TellsStep statements) lines steps at line zip there in
    let text : List ℕ = line_text files (at + 1) position own.letters.items step in
    one_more files tokens steps at old new text step first stands
    (record {
      index = own.index;
      letters = own.letters.items;
      spelled = spelled;
      file = position.0;
      at = position.1;
      place = place;
      said = refl;
    })
    (added step tells)

-- ---- the steps that tokens say

-- each has a place, where each of the moves has one
pub have_places : (tokens : List (List ℕ)) (count : ℕ) (steps : List StepLetters)
    → AreStepLetters (judged_tokens tokens) steps
    → ((before : List Sentence) (s : Sentence) (moves : List (Move (List ℕ)))
    → SayMoves before s tokens moves → length moves ≤ count)
    → ((before : List Sentence) (s : Sentence) (moves : List (Move (List ℕ)))
    → SayMoves before s (checked_prefix tokens) moves → length moves ≤ count)
    → (before : List Sentence) (s : Sentence) (moves : List (Move (List ℕ)))
    → SayMoves before s (judged_tokens tokens) moves → HaveStepLetters tokens count steps
have_places tokens count steps are whole known before s moves says n step there =
    let spelled = are.each n step there in (
      spelled,
      has_place tokens count whole known before s moves says step.index
          (letters_within (judged_tokens tokens) (n + 1) step.index step.letters.items spelled before
          s moves says),
    )
