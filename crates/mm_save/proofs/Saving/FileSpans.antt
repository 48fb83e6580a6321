-- The theorems of a file and the spans of their proofs: these rise, and move together.
use Rattle.std.proofs.Common.{◌≡◌, ℕ, List, [], ◌∷◌, ◌++◌, Bool, true, false, ◌&&◌, ◌==◌}
use Rattle.std.proofs.Common.{eq-eqb, cond, ap, take, ◌∙◌, append-nil}
use Rattle.std.specs.List.{AllZip}
use Rattle.std.proofs.lemmas.Bool.{and_parts, eqb-true}
use Rattle.std.proofs.lemmas.List.Elements.{filter-append}
use Rattle.mm_base.specs.Statement.{PlainStatement}
use Rattle.mm_frame.specs.Sentence.{sentence_of}
use Rattle.mm_step.specs.Tree.{Trees, none, tree}
use Rattle.mm_verdict.specs.declared.form.Form.{Form}
use Rattle.mm_rules.specs.Verdict.{sentences, is_proof}
use Rattle.mm_render.specs.Forms.{HasProofTree}
use Rattle.mm_render.specs.Saved.{IsSpanText, within_span}
use Rattle.mm_verdict.specs.declared.form.Form.TheVariants.{Normal}
use Rattle.mm_save.specs.AllSaved.{is_theorem_of, theorems_of, Replacement, IsReplacement}
use Rattle.mm_save.specs.AllSaved.{IsFirstTooLong}
use Rattle.mm_save.specs.Mirror.AllSaving.{HasTooLongProof}

-- ==== the theorems of a file: the `$p` with complete proofs that stand there

pub theorem_complete : (number : ℕ) (s : PlainStatement) → is_theorem_of number s ≡ true
    → is_proof s ≡ true
theorem_complete number s is = (and_parts (is_proof s) (s.first.file == number) is).0

pub theorem_home : (number : ℕ) (s : PlainStatement) → is_theorem_of number s ≡ true
    → s.first.file ≡ number
theorem_home number s is =
    eqb-true s.first.file number (and_parts (is_proof s) (s.first.file == number) is).1

pub theorem_there : (number : ℕ) (s : PlainStatement) → is_proof s ≡ true
    → s.first.file ≡ number → is_theorem_of number s ≡ true
theorem_there number s complete home =
    let there : (s.first.file == number) ≡ true = eq-eqb s.first.file number home in
    λ i. complete i && there i

-- those before it, it, and those after it
pub theorems_parted : (number : ℕ) (before : List PlainStatement) (s : PlainStatement)
    (after : List PlainStatement) → is_theorem_of number s ≡ true
    → theorems_of number (before ++ s ∷ after)
    ≡ theorems_of number before ++ s ∷ theorems_of number after
theorems_parted number before s after is =
    filter-append (is_theorem_of number) before (s ∷ after)
    ∙ ap (λ (b : Bool). theorems_of number before
    ++ cond b (s ∷ theorems_of number after) (theorems_of number after)) is

-- where one is no theorem, those up to it are those before it
pub theorems_passed : (number : ℕ) (before : List PlainStatement) (s : PlainStatement)
    → is_theorem_of number s ≡ false
    → theorems_of number (before ++ s ∷ []) ≡ theorems_of number before
theorems_passed number before s other =
    filter-append (is_theorem_of number) before (s ∷ [])
    ∙ ap (λ (b : Bool). theorems_of number before ++ cond b (s ∷ []) []) other
    ∙ append-nil (theorems_of number before)

-- in a file of these bytes, a theorem's proof is replaced by what is put for its tree
pub replaced_by : (form : Form) (bytes : List ℕ) {statements : List PlainStatement} {label : List ℕ}
    {index : ℕ} {s : PlainStatement} {root : List ℕ} {below : Trees} {new : Replacement}
    → HasProofTree statements label index s root below
    → IsSpanText form (sentences (take index statements)) (sentence_of s) (tree root below none)
    (within_span bytes s.span) new.text
    → new.span ≡ s.span → IsReplacement form bytes statements s new
replaced_by form bytes {label = label} {index = index} {root = root} {below = below} proof laid span
    = record {
      label = label;
      index = index;
      root = root;
      below = below;
      proof = proof;
      laid = laid;
      span = span;
    }

-- a normal proof that is too long is the first one if those before it are replaced
pub first_too_long : (statements : List PlainStatement) (number : ℕ) (label : List ℕ)
    (before : List PlainStatement) (s : PlainStatement) (after : List PlainStatement)
    (bytes : List ℕ) (news : List Replacement)
    → theorems_of number statements ≡ before ++ s ∷ after
    → AllZip (IsReplacement Normal bytes statements) before news
    → HasTooLongProof statements s label → IsFirstTooLong statements number label
first_too_long statements number label before s after bytes news split fit
    (index, root, below, proof, long) = record {
      before = before;
      s = s;
      after = after;
      split = split;
      bytes = bytes;
      news = news;
      fit = fit;
      index = index;
      root = root;
      below = below;
      proof = proof;
      long = long;
    }
