-- The text of lines, one after the other, is that of the listing.
use Rattle.std.proofs.Common.{◌≡◌, ℕ, zero, suc, ◌+◌, ◌<◌, List, [], ◌∷◌, ◌++◌, take, length}
use Rattle.std.proofs.Common.{get_or, slice_get, decimal, Some, Result, Err, sym, ap, subst}
use Rattle.std.proofs.Common.{◌∙◌, arith, append_assoc, append-nil}
use Rattle.std.specs.List.{AllZip, AllByRecursion}
use Rattle.std.specs.Result.{IsOkUnless}
use Rattle.std.proofs.lemmas.Option.{slice_get-get_or}
use Rattle.mm_frame.specs.Sentence.{Sentence}
use Rattle.mm_frame.specs.Numbers.{symbols_of}
use Rattle.mm_step.specs.Stores.{numbers_in}
use Rattle.mm_listing.specs.declared.lines.Line.{Line}
use Rattle.mm_step.specs.declared.fault.ProofRule.{ProofRule}
use Rattle.mm_step.specs.declared.fault.ProofFault.{ProofFault}
use Rattle.mm_listing.specs.Listing.{ListedStep, TellsStep}
use Rattle.mm_rules.specs.Answer.{labels_at}
use Rattle.mm_render.specs.Shown.{name_text, step_text, steps_text}
use Rattle.mm_rules.specs.Shown.{symbols_text}
use Rattle.mm_rules.proofs.Numbers.{names_at, numbers_within}
use Rattle.mm_base.proofs.Lists.{zip_length, zip_left}
use Rattle.mm_step.specs.declared.fault.ProofFault.TheVariants as faults

-- ---- a line

-- its symbols have numbers
pub numbers_told : (statements : List Sentence) (line : Line) (step : ListedStep) → TellsStep statements line step
    → AllByRecursion (λ n. n < length (symbols_of statements)) (numbers_in line.expression.items)
numbers_told statements line step tells = numbers_within (symbols_of statements) (numbers_in line.expression.items) step.expression tells.pushed

-- number, space, name, symbols and line feed
pub line_told : (statements : List Sentence) (line : Line) (step : ListedStep) (number : ℕ) (o₀ o₁ o₂ o₃ o₄ o₅ : List ℕ) → TellsStep statements line step
    → o₁ ≡ o₀ ++ decimal number → o₂ ≡ o₁ ++ 32 ∷ [] → o₃ ≡ o₂ ++ name_text step.called
    → o₄ ≡ o₃ ++ symbols_text (labels_at (symbols_of statements) (numbers_in line.expression.items)) → o₅ ≡ o₄ ++ 10 ∷ []
    → o₅ ≡ o₀ ++ step_text number step
line_told statements line step number o₀ o₁ o₂ o₃ o₄ o₅ tells h₁ h₂ h₃ h₄ h₅ =
    let symbols : labels_at (symbols_of statements) (numbers_in line.expression.items) ≡ step.expression =
    names_at (symbols_of statements) (numbers_in line.expression.items) step.expression tells.pushed in
    rw (h₅, h₄, h₃, h₂, h₁, symbols) (simp append_assoc)

-- ---- all lines

-- the step that the line at an index tells
pub told_at : (statements : List Sentence) (lines : List Line) (steps : List ListedStep) (at : ℕ) (d : Line) → AllZip (TellsStep statements) lines steps → at < length lines
    → (step : ListedStep) × (slice_get steps at ≡ Some step) × TellsStep statements (get_or lines at d) step
told_at statements lines steps at d zip less =
    zip_left (TellsStep statements) lines steps at (get_or lines at d) zip
    (slice_get-get_or lines at d less)

-- as many lines as steps
pub as_many : (statements : List Sentence) (lines : List Line) (steps : List ListedStep) → AllZip (TellsStep statements) lines steps → length steps ≡ length lines
as_many statements lines steps zip = sym (zip_length (TellsStep statements) lines steps zip)

-- one step more
one_more_step : (steps : List ListedStep) (n at : ℕ) (step : ListedStep) → slice_get steps at ≡ Some step
    → steps_text n (take (suc at) steps) ≡ steps_text n (take at steps) ++ step_text (n + at) step
one_more_step [] n at step e = absurd cc
one_more_step (x ∷ steps) n zero step e =
    let same : x ≡ step = cc in append-nil (step_text n x) ∙ ap (λ (s : ListedStep). step_text n s) same ∙ ap (λ (m : ℕ). step_text m step) (omega arith)
one_more_step (x ∷ steps) n (suc at) step e =
    let rest : steps_text (n + 1) (take (suc at) steps) ≡ steps_text (n + 1) (take at steps) ++ step_text (n + 1 + at) step = one_more_step steps (n + 1) at step e in
    let number : n + 1 + at ≡ n + suc at = omega arith in
    ap (λ (text : List ℕ). step_text n x ++ text) (rest ∙ ap (λ (m : ℕ). steps_text (n + 1) (take at steps) ++ step_text m step) number)
    ∙ sym (append_assoc (step_text n x) (steps_text (n + 1) (take at steps)) (step_text (n + suc at) step))

-- one line more
pub one_more_line : (steps : List ListedStep) (at : ℕ) (step : ListedStep) → slice_get steps at ≡ Some step
    → steps_text 1 (take (at + 1) steps) ≡ steps_text 1 (take at steps) ++ step_text (at + 1) step
one_more_line steps at step e =
    let next : at + 1 ≡ suc at = omega arith in
    let number : 1 + at ≡ at + 1 = omega arith in
    ap (λ (n : ℕ). steps_text 1 (take n steps)) next ∙ one_more_step steps 1 at step e
    ∙ ap (λ (n : ℕ). steps_text 1 (take at steps) ++ step_text n step) number

-- ---- the proof of a theorem

-- what is listed unless memory is refused has no fault of a rule
pub no_rule_fault : {X : Type 0} (result : Result X ProofFault) (rule : ProofRule) (step : ℕ) → result ≡ Err (faults.Rule rule step) → IsOkUnless result faults.Memory → ⊥
no_rule_fault {X} result rule step is unless =
    let e : faults.Rule rule step ≡ faults.Memory = subst (λ (r : Result X ProofFault). IsOkUnless r faults.Memory) is unless in cc
