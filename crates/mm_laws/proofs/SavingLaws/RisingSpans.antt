-- The spans of the theorems of a file rise.
use Rattle.std.proofs.Common.{◌≡◌, ℕ, List, [], ◌∷◌, ◌++◌, Bool, true, false, not, ◌&&◌, ◌==◌}
use Rattle.std.proofs.Common.{cond, refl, ap, ◌∙◌, ◌+◌, ◌≤◌, map}
use Rattle.std.proofs.Common.{length, sym, arith, slice_get, Some, None}
use Rattle.std.specs.List.{AllZip}
use Rattle.mm_base.specs.Statement.{PlainStatement, is_provable}
use Rattle.mm_text.specs.Replaced.{placeless, IsMoved}
use Rattle.mm_proof.specs.Tokens.{is_incomplete}
use Rattle.mm_save.specs.AllSaved.{is_theorem_of, theorems_of}
use Rattle.mm_verdict.proofs.AlikeVerdicts.{same_sentence, same_proof}
use Rattle.mm_verdict.proofs.FileBytes.StatementsInFiles.{nowhere, provable_proof, within_bytes}
use Rattle.mm_base.specs.declared.statement.Kind.TheVariants.{Provable}
use Rattle.mm_text.specs.Files.{PlainFile}
use Rattle.mm_text.specs.Reading.{Reads}
use Rattle.mm_text.proofs.Replaced.ProofSpans.{proof_spans_follow_holds}
use Rattle.mm_text.proofs.Replaced.ProofSpans.{proofs_stand_in_spans_holds}
use Rattle.mm_base.proofs.Lists.{mapped_zip, zip_both}
use Rattle.mm_save.proofs.Saving.FileSpans.{theorem_complete, theorem_home}

-- wherever its tokens stand
pub theorem_placeless : (number : ℕ) (s t : PlainStatement) → placeless s ≡ placeless t
    → is_theorem_of number s ≡ is_theorem_of number t
theorem_placeless number s t same =
    let said = same_sentence nowhere nowhere s t same in
    let proof = same_proof nowhere nowhere s t same in
    let home : s.first.file ≡ t.first.file = ap (λ (u : PlainStatement). u.first.file) same in
    λ i. (is_provable (said i).kind && not (is_incomplete (proof i))) && (home i == number)

-- the theorems of two lists of statements correspond where the statements do
pub theorems_zip : (number : ℕ) (R S : PlainStatement → PlainStatement → Type 0)
    → ((s t : PlainStatement) → R s t → is_theorem_of number s ≡ is_theorem_of number t)
    → ((s t : PlainStatement) → is_theorem_of number s ≡ true → R s t → S s t)
    → (after later : List PlainStatement) → AllZip R after later
    → AllZip S (theorems_of number after) (theorems_of number later)
theorems_zip number R S alike step [] [] zip = tt
theorems_zip number R S alike step [] (t ∷ later) zip = absurd zip
theorems_zip number R S alike step (s ∷ after) [] zip = absurd zip
theorems_zip number R S alike step (s ∷ after) (t ∷ later) zip =
    both (is_theorem_of number s) (is_theorem_of number t) (alike s t zip.0) refl
    (theorems_zip number R S alike step after later zip.1)
  where
    both : (b c : Bool) → b ≡ c → is_theorem_of number s ≡ b
        → AllZip S (theorems_of number after) (theorems_of number later)
        → AllZip S (cond b (s ∷ theorems_of number after) (theorems_of number after))
        (cond c (t ∷ theorems_of number later) (theorems_of number later))
    both true true same is rest = (step s t is zip.0, rest)
    both false false same is rest = rest
    both _ _ same is rest = absurd cc

-- ==== where the proofs of a file stand in it

-- ---- their spans rise

-- spans rise, from a position on and up to an end
abbrev pub Rise : (at end : ℕ) → List (ℕ × ℕ) → Type 0
Rise at end [] = at ≤ end
Rise at end (span ∷ spans) = (at ≤ span.0) × (span.0 ≤ span.1) × Rise span.1 end spans

-- those of the theorems
abbrev pub spans_of : (number : ℕ) → List PlainStatement → List (ℕ × ℕ)
spans_of number statements = map (λ s. s.span) (theorems_of number statements)

-- what is said of each theorem among the statements
abbrev EachTheorem : (number : ℕ) → (PlainStatement → Type 0) → List PlainStatement → Type 0
EachTheorem number P statements =
    (before after : List PlainStatement) (s : PlainStatement) → statements ≡ before ++ s ∷ after
    → is_theorem_of number s ≡ true → P s

-- the span of each later theorem begins where that of an earlier one has ended
abbrev Follow : (number : ℕ) → List PlainStatement → Type 0
Follow number statements =
    (before between after : List PlainStatement) (s t : PlainStatement)
    → statements ≡ before ++ s ∷ between ++ t ∷ after → is_theorem_of number s ≡ true
    → is_theorem_of number t ≡ true → s.span.1 ≤ t.span.0

abbrev pub EndsWithin : (end : ℕ) → PlainStatement → Type 0
EndsWithin end s = (s.span.0 ≤ s.span.1) × (s.span.1 ≤ end)

-- what is said of each is said of each but the first
rest_theorems : (number : ℕ) (P : PlainStatement → Type 0) (s : PlainStatement)
    (statements : List PlainStatement) → EachTheorem number P (s ∷ statements)
    → EachTheorem number P statements
rest_theorems number P s statements each before after t split is =
    each (s ∷ before) after t (ap (λ (ss : List PlainStatement). s ∷ ss) split) is

rise_more : (number at end : ℕ) (s : PlainStatement) (statements : List PlainStatement) (b : Bool)
    → is_theorem_of number s ≡ b → Rise at end (spans_of number statements)
    → (is_theorem_of number s ≡ true → Rise at end (s.span ∷ spans_of number statements))
    → Rise at end (map (λ t. t.span)
    (cond b (s ∷ theorems_of number statements) (theorems_of number statements)))
rise_more number at end s statements true is others own = own is
rise_more number at end s statements false is others own = others

rise : (number at end : ℕ) (statements : List PlainStatement) → at ≤ end
    → EachTheorem number (λ s. at ≤ s.span.0) statements → Follow number statements
    → EachTheorem number (EndsWithin end) statements
    → Rise at end (spans_of number statements)
rise number at end [] less behind follow within = less
rise number at end (s ∷ statements) less behind follow within =
    let later : Follow number statements = λ before between after t u split.
    follow (s ∷ before) between after t u (ap (λ (ss : List PlainStatement). s ∷ ss) split) in
    let others = rest_theorems number (EndsWithin end) s statements within in
    rise_more number at end s statements (is_theorem_of number s) refl
    (rise number at end statements less
    (rest_theorems number (λ t. at ≤ t.span.0) s statements behind) later others)
    (λ is.
    let own : EndsWithin end s = within [] statements s refl is in (
      behind [] statements s refl is,
      own.0,
      rise number s.span.1 end statements own.1
          (λ before after t split other.
          follow [] before after s t (ap (λ (ss : List PlainStatement). s ∷ ss) split) is
          other)
          later others,
    ))

-- the spans of the theorems of a file rise in its bytes
pub spans_rise : (files : List PlainFile) (statements : List PlainStatement)
    (number : ℕ) (file : PlainFile) → Reads files statements None
    → slice_get files number ≡ Some file
    → Rise 0 (length file.bytes) (spans_of number statements)
spans_rise files statements number file reads there =
    rise number 0 (length file.bytes) statements (omega arith)
    (λ before after s split is. omega arith) follow within
  where
    follow : Follow number statements
    follow before between after s t split is other =
        proof_spans_follow_holds files before between after s t None (rw split at reads)
        (provable_proof s (theorem_complete number s is))
        (provable_proof t (theorem_complete number t other))
        (theorem_home number s is ∙ sym (theorem_home number t other))

    within : EachTheorem number (EndsWithin (length file.bytes)) statements
    within before after s split is =
        within_bytes s file.bytes
        (proofs_stand_in_spans_holds files before s after None file (rw split at reads)
        (provable_proof s (theorem_complete number s is))
        (ap (slice_get files) (theorem_home number s is) ∙ there))

-- ---- and they move together

-- the span is as far behind another position as it was behind one
pub record IsMovedTo (end other_end : ℕ) (s t : PlainStatement) : Type 0 where
  pub start : s.span.0 + other_end ≡ t.span.0 + end
  pub stop : s.span.1 + other_end ≡ t.span.1 + end

-- where one proof is put in, the proofs behind it are as far behind it as they were
pub theorems_moved : (number end other_end : ℕ) (after later : List PlainStatement)
    → map placeless after ≡ map placeless later
    → AllZip (λ s t. s.kind ≡ Provable → IsMoved number end other_end s t) after later
    → AllZip (IsMovedTo end other_end) (theorems_of number after) (theorems_of number later)
theorems_moved number end other_end after later same moved =
    let Alike : PlainStatement → PlainStatement → Type 0 = λ s t. placeless s ≡ placeless t in
    let Moved : PlainStatement → PlainStatement → Type 0 =
    λ s t. s.kind ≡ Provable → IsMoved number end other_end s t in
    theorems_zip number (λ s t. Alike s t × Moved s t) (IsMovedTo end other_end)
    (λ s t both. theorem_placeless number s t both.0)
    (λ s t is both.
    let home : s.first.file ≡ number = theorem_home number s is in
    let own = both.1 (provable_proof s (theorem_complete number s is)) in
    record { start = own.start home; stop = own.stop home }) after later (zip_both Alike Moved after
    later (mapped_zip placeless placeless Alike (λ s t alike. alike) after later same) moved)
