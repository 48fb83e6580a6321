-- The text of the lines of those steps that are told, one after the other, each with what it uses.
use Rattle.std.proofs.Common.{◌≡◌, ℕ, zero, suc, ◌+◌, ◌<◌, List, [], ◌∷◌, ◌++◌, take, length, cond}
use Rattle.std.proofs.Common.{get_or, slice_get, codes, decimal, Some, Bool, true, false, sym, ap}
use Rattle.std.proofs.Common.{◌∙◌}
use Rattle.std.proofs.Common.{arith, append_assoc, append-nil, replicate, refl, subst}
use Rattle.std.proofs.lemmas.List.{take_more, take_all, replicate_more, length-replicate}
use Rattle.std.proofs.lemmas.List.{get_or-replicate}
use Rattle.std.proofs.lemmas.Slice.Zip.{AllZip-long}
use Rattle.std.proofs.lemmas.Option.{slice_get_within}
use Rattle.std.proofs.lemmas.Grind.{flat_map-append}
use Rattle.mm_frame.specs.Sentence.{Sentence}
use Rattle.mm_frame.specs.Numbers.{symbols_of}
use Rattle.mm_frame.specs.Rules.{AllMeant}
use Rattle.mm_frame.proofs.Rules.ObeyedRules.{allmeant_prefix}
use Rattle.mm_step.specs.Stores.{numbers_in}
use Rattle.mm_listing.specs.declared.lines.Line.{Line}
use Rattle.mm_step.specs.Moves.{Move}
use Rattle.mm_step.specs.Profiles.{limit_of}
use Rattle.mm_step.specs.Proof.{IsWithin}
use Rattle.mm_step.specs.Steps.{IsNumberedMove}
use Rattle.mm_proof.specs.CheckedPrefix.{Pass}
use Rattle.mm_proof.specs.ReadSteps.{ReadSteps}
use Rattle.mm_proof.specs.Verified.{OfMoves}
use Rattle.mm_proof.proofs.ProofVerdicts.PassedMoves.{proof_passed}
use Rattle.mm_listing.specs.Listing.{ListedStep, TellsStep, TellsStepWith, TellSteps, AreLinesWith}
use Rattle.mm_listing.specs.Uses.{AreUses, AreRoots}
use Rattle.mm_base.proofs.Lists.{get_within}
use Rattle.mm_base.specs.Statement.{PlainStatement}
use Rattle.mm_rules.specs.Answer.{labels_at}
use Rattle.mm_rules.specs.Verdict.{sentences}
use Rattle.mm_render.specs.Shown.{name_text}
use Rattle.mm_rules.specs.Shown.{symbols_text}
use Rattle.mm_render.specs.ShownUses.{more_uses_text, uses_text, used_step_text, used_steps_text}
use Rattle.mm_render.specs.ShownUses.{AreTold, ShowsUses, TellsUses}
use Rattle.mm_verdict.specs.Mirror.Theorems.{AreStepsOf, IsWholeProof}
use Rattle.mm_rules.proofs.Numbers.{names_at}
use Rattle.mm_verdict.proofs.Questions.AskedTheorems.{of_theorem}

-- ---- the steps that a step uses

-- one step more
one_more_use : (steps : List ℕ) (k : ℕ) → k < length steps
    → more_uses_text (take (k + 1) steps)
    ≡ more_uses_text (take k steps) ++ (codes "," ++ decimal (get_or steps k 0))
one_more_use steps k less = rw (take_more steps k 0 less) (simp (flat_map-append, append-nil))

-- a comma and its number
pub more_told : (steps : List ℕ) (k : ℕ) (o₀ o₁ o₂ o₃ : List ℕ) → k < length steps
    → o₁ ≡ o₀ ++ more_uses_text (take k steps) → o₂ ≡ o₁ ++ 44 ∷ []
    → o₃ ≡ o₂ ++ decimal (get_or steps k 0) → o₃ ≡ o₀ ++ more_uses_text (take (k + 1) steps)
more_told steps k o₀ o₁ o₂ o₃ less h₁ h₂ h₃ =
    rw (h₃, h₂, h₁, one_more_use steps k less) (simp append_assoc)

-- ---- a line

-- number, space, uses, space, name, symbols and line feed
pub used_told : (statements : List Sentence) (line : Line) (step : ListedStep) (number : ℕ)
    (used : List ℕ) (o₀ o₁ o₂ o₃ o₄ o₅ o₆ o₇ : List ℕ) → TellsStep statements line step
    → o₁ ≡ o₀ ++ decimal number → o₂ ≡ o₁ ++ 32 ∷ [] → o₃ ≡ o₂ ++ uses_text used
    → o₄ ≡ o₃ ++ 32 ∷ [] → o₅ ≡ o₄ ++ name_text step.called
    → o₆ ≡ o₅
    ++ symbols_text (labels_at (symbols_of statements) (numbers_in line.expression.items))
    → o₇ ≡ o₆ ++ 10 ∷ [] → o₇ ≡ o₀ ++ used_step_text number step used
used_told statements line step number used o₀ o₁ o₂ o₃ o₄ o₅ o₆ o₇ tells h₁ h₂ h₃ h₄ h₅ h₆ h₇ =
    let symbols : labels_at (symbols_of statements) (numbers_in line.expression.items)
    ≡ step.expression =
    names_at (symbols_of statements) (numbers_in line.expression.items) step.expression
    tells.pushed in
    rw (h₇, h₆, h₅, h₄, h₃, h₂, h₁, symbols) (simp append_assoc)

-- ---- all lines

-- the step that a line tells with its expression
pub step_told : (statements : List Sentence) (expressed : ℕ → Bool) (lines : List Line)
    (steps : List ListedStep) (at : ℕ) (line : Line) → TellSteps statements expressed lines steps
    → slice_get lines at ≡ Some line → expressed at ≡ true
    → (step : ListedStep) × (slice_get steps at ≡ Some step) × TellsStep statements line step
step_told statements expressed lines steps at line told there flag =
    let within = slice_get_within lines at line there in
    let s = get_within steps at (omega (arith, within, told.count)) in
    (s.0, s.1, subst (λ b. TellsStepWith statements b line s.0) flag (told.each at line s.0 there s.1))

-- where all steps have their expressions, so have those whose flags are set
pub all_flags_told : (statements : List Sentence) (lines : List Line) (steps : List ListedStep)
    (n : ℕ) → TellSteps statements (λ step. true) lines steps → length lines ≡ n
    → TellSteps statements (λ index. get_or (replicate n true) index false) lines steps
all_flags_told statements lines steps n told long = record {
  count = told.count;
  each = λ index line step there here.
      let within = slice_get_within lines index line there in
      subst (λ b. TellsStepWith statements b line step)
      (sym (get_or-replicate n index true false (omega (arith, within, long))))
      (told.each index line step there here);
}

-- one step more
one_more_step : (steps : List ListedStep) (rows : List (List ℕ)) (told : List Bool) (n at : ℕ)
    (step : ListedStep) (row : List ℕ) (is_told : Bool) → slice_get steps at ≡ Some step
    → slice_get rows at ≡ Some row → slice_get told at ≡ Some is_told
    → used_steps_text n (take (suc at) steps) (take (suc at) rows) (take (suc at) told)
    ≡ used_steps_text n (take at steps) (take at rows) (take at told)
    ++ cond is_told (used_step_text (n + at) step row) []
one_more_step [] rows told n at step row is_told e f g = absurd cc
one_more_step (x ∷ steps) [] told n at step row is_told e f g = absurd cc
one_more_step (x ∷ steps) (y ∷ rows) [] n at step row is_told e f g = absurd cc
one_more_step (x ∷ steps) (y ∷ rows) (z ∷ told) n zero step row is_told e f g =
    let same_step : x ≡ step = cc in
    let same_row : y ≡ row = cc in
    let same_flag : z ≡ is_told = cc in
    let number : n + 0 ≡ n = omega arith in
    append-nil (cond z (used_step_text n x y) [])
    ∙ rw (same_step, same_row, same_flag, number) refl
one_more_step (x ∷ steps) (y ∷ rows) (z ∷ told) n (suc at) step row is_told e f g =
    let rest : used_steps_text (n + 1) (take (suc at) steps) (take (suc at) rows)
    (take (suc at) told)
    ≡ used_steps_text (n + 1) (take at steps) (take at rows) (take at told)
    ++ cond is_told (used_step_text (n + 1 + at) step row) [] =
    one_more_step steps rows told (n + 1) at step row is_told e f g in
    let number : n + 1 + at ≡ n + suc at = omega arith in
    let first : List ℕ = cond z (used_step_text n x y) [] in
    ap (λ (text : List ℕ). first ++ text) rest
    ∙ ap (λ (m : ℕ). first ++ (used_steps_text (n + 1) (take at steps) (take at rows) (take at told)
    ++ cond is_told (used_step_text m step row) [])) number
    ∙ sym (append_assoc first
    (used_steps_text (n + 1) (take at steps) (take at rows) (take at told))
    (cond is_told (used_step_text (n + suc at) step row) []))

-- one line more, or none
pub one_more_told : (steps : List ListedStep) (rows : List (List ℕ)) (told : List Bool) (at : ℕ)
    (step : ListedStep) (row : List ℕ) (is_told : Bool) → slice_get steps at ≡ Some step
    → slice_get rows at ≡ Some row → slice_get told at ≡ Some is_told
    → used_steps_text 1 (take (at + 1) steps) (take (at + 1) rows) (take (at + 1) told)
    ≡ used_steps_text 1 (take at steps) (take at rows) (take at told)
    ++ cond is_told (used_step_text (at + 1) step row) []
one_more_told steps rows told at step row is_told e f g =
    let next : at + 1 ≡ suc at = omega arith in
    let number : 1 + at ≡ at + 1 = omega arith in
    ap (λ (n : ℕ). used_steps_text 1 (take n steps) (take n rows) (take n told)) next
    ∙ one_more_step steps rows told 1 at step row is_told e f g
    ∙ ap (λ (n : ℕ). used_steps_text 1 (take at steps) (take at rows) (take at told)
    ++ cond is_told (used_step_text n step row) []) number

-- one flag more
pub one_more_flag : (n : ℕ) → replicate n true ++ true ∷ [] ≡ replicate (n + 1) true
one_more_flag n = replicate_more n true

-- as many flags as rows
pub told_long : (essential : Bool) (roots : List ℕ) (rows : List (List ℕ)) (told : List Bool)
    → AreTold essential roots rows told → length told ≡ length rows
told_long false roots rows told is = ap length is ∙ length-replicate (length rows) true
told_long true roots rows told is = is.count

-- ---- the proof of a theorem

-- what the lines say of the moves
pub uses_told : (essential : Bool) (statements before : List Sentence)
    (moves : List (Move (List ℕ))) (lines : List Line) (rows : List (List ℕ)) (roots : List ℕ)
    (told : List Bool) (text : List ℕ)
    → AreLinesWith statements before moves (λ index. get_or told index false) lines
    → AreUses essential before moves rows → AreRoots before moves roots
    → AreTold essential roots rows told
    → ((steps : List ListedStep)
    → TellSteps statements (λ index. get_or told index false) lines steps
    → text ≡ used_steps_text 1 steps rows told)
    → TellsUses essential before moves text
uses_told essential statements before moves lines rows roots told text listed used rooted chosen laid =
    record {
      steps = listed.0;
      listed = listed.1;
      rows = rows;
      used = used;
      roots = roots;
      rooted = rooted;
      told = told;
      chosen = chosen;
      laid = laid listed.0 listed.2;
    }

-- all moves of a whole proof pass, so many first ones
pub whole_front : (st : List Sentence) (id : ℕ) (steps : ReadSteps) (n : ℕ) → AllMeant st
    → IsWholeProof st id steps → n ≡ length steps.moves
    → OfMoves st id steps.moves (λ index s moves. (take n moves ≡ moves)
    × Pass (IsWithin (limit_of steps.profile)) (take index st) (take n moves))
whole_front st id steps n all whole is index s moves proof numbered =
    let Fits : List (List ℕ) → Type 0 = IsWithin (limit_of steps.profile) in
    let before : List Sentence = take index st in
    let long = AllZip-long (IsNumberedMove st) steps.moves moves numbered in
    let every : take n moves ≡ moves = take_all n moves (omega (arith, is, long)) in
    let p = proof_passed Fits before s moves (allmeant_prefix st index all)
    (whole.1 index s moves proof numbered) in (
      every,
      subst (λ (ms : List (Move (List ℕ))). Pass Fits before ms) (sym every)
          (s.symbols ∷ [], p.0, p.1),
    )

-- what is told of the moves is told of the theorem's tokens
pub uses_shown : (essential : Bool) (ss : List Sentence) (statements : List PlainStatement)
    (label : List ℕ) (id : ℕ) (steps : List (Move ℕ)) (text : List ℕ) → ss ≡ sentences statements
    → AreStepsOf statements label id steps
    → OfMoves ss id steps (λ index s moves. TellsUses essential (take index ss) moves text)
    → ShowsUses essential statements label text
uses_shown essential ss statements label id steps text same r holds = record {
  index = r.index;
  s = r.s;
  there = r.there;
  named = r.named;
  complete = r.complete;
  shown = (
    r.moves,
    r.told,
    of_theorem ss statements label id steps
        (λ before s moves. TellsUses essential before moves text) same r holds,
  );
}
