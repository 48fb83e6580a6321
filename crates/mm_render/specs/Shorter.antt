-- A shorter proof of a theorem, and the text that is told in place of its own small proof. Proofs are
-- those of the Metamath book, sections 4.1.4, 4.3 and 4.4.3 and appendix B. Which of them are shorter
-- is this project's own; the marks and the mathboxes that they heed are conventions of the field.
use Rattle.std.specs.Prelude.{◌≡◌, ℕ, ◌<◌, ◌≤◌, List, [], ◌∷◌, take, length, slice_get}
use Rattle.std.specs.Prelude.{true, codes, option_map, unwrap_or, ◌⊎◌}
use Rattle.mm_base.specs.declared.statement.Kind.TheVariants.{Axiom}
use Rattle.mm_base.specs.Statement.{PlainStatement}
use Rattle.mm_text.specs.Files.{PlainFile}
use Rattle.mm_text.specs.Remarks.{IsSaidBefore, mathbox_at}
use Rattle.mm_frame.specs.Sentence.{Sentence, sentence_of}
use Rattle.mm_step.specs.declared.profile.Profile.{Profile}
use Rattle.mm_step.specs.Profiles.{limit_of}
use Rattle.mm_step.specs.Proof.{IsWithin}
use Rattle.mm_forms.specs.Sharing.{HasSteps}
use Rattle.mm_step.specs.Tree.{Trees, none, tree, DeriveAll}
use Rattle.mm_proof.specs.Used.{IsUsedNumber}
use Rattle.mm_render.specs.Forms.{HasProofTree, IsSmallOf, IsSmallText}
use Rattle.mm_rules.specs.Rests.{IsAt, IsNumberWhere, RestsOn, Uses}
use Rattle.mm_rules.specs.Verdict.{is_unproved, sentences}

-- ---- marks and mathboxes

-- this marks an assertion that no further proof should use
abbrev pub usage_mark : List ℕ
usage_mark = codes "(New usage is discouraged.)"

-- this marks a theorem whose proof should stay as it is
abbrev pub proof_mark : List ℕ
proof_mark = codes "(Proof modification is discouraged.)"

-- the bytes of the file in which a statement begins
abbrev pub home_bytes : List PlainFile → PlainStatement → List ℕ
home_bytes files s = unwrap_or (option_map (λ f. f.bytes) (slice_get files s.first.file)) []

-- the comment right before the statement, in its file, says the sentence
abbrev pub IsMarkedWith : (sentence : List ℕ) → List PlainFile → PlainStatement → Type 0
IsMarkedWith sentence files s = IsSaidBefore sentence (home_bytes files s) s.first.at

-- the mathbox of a statement, by how many headings stand before it in its own file; 0 where none
-- does
abbrev pub mathbox_of : List PlainFile → PlainStatement → ℕ
mathbox_of files s = mathbox_at (home_bytes files s) s.first.at

-- The theorem's proof may newly use the assertion: its use isn't discouraged, and it stands in no
-- mathbox or in that of the theorem.
pub record MayUse (files : List PlainFile) (theorem assertion : PlainStatement) : Type 0 where
  pub unmarked : ¬ (IsMarkedWith usage_mark files assertion)
  pub home : (mathbox_of files assertion ≡ 0)
      ⊎ ((assertion.first.file ≡ theorem.first.file)
      × (mathbox_of files assertion ≡ mathbox_of files theorem))

-- ---- shorter proofs

-- the tree derives what the statement says, after those before it and within what the profile allows
abbrev pub DerivesUnder : Profile → (before : List Sentence) → Sentence → Trees → Type 0
DerivesUnder profile before s t =
    DeriveAll (IsWithin (limit_of profile)) before t (s.symbols ∷ [])

-- the number is that of a `$a`, or of a `$p` with an incomplete proof
abbrev pub IsUnfounded : List PlainStatement → ℕ → Type 0
IsUnfounded statements n =
    IsNumberWhere statements (λ s. s.kind ≡ Axiom) n
    ⊎ IsNumberWhere statements (λ s. is_unproved s ≡ true) n

-- a proof that uses an assertion rests on the one with the second number: that is the used one, or
-- the used one rests on it
abbrev pub RestsThrough : List PlainStatement → (used : ℕ) → ℕ → Type 0
RestsThrough statements used n = (used ≡ n) ⊎ RestsOn (Uses statements) used n

-- The tree proves the theorem with the label, and this is its small proof. It is shorter than the
-- theorem's own: the text has fewer than so many bytes, and the tree takes no more steps. The
-- theorem isn't marked. Each assertion that the tree newly uses may be used, and it rests on no
-- axiom, and on no unproved theorem, on which the theorem doesn't rest already.
pub record IsShorterTree (profile : Profile) (files : List PlainFile)
    (statements : List PlainStatement) (label : List ℕ) (bytes : ℕ) (t : Trees)
    (text : List ℕ) : Type 0 where
  pub id : ℕ
  pub index : ℕ
  pub s : PlainStatement
  pub at : IsAt statements id index s
  pub root : List ℕ
  pub below : Trees
  pub own : HasProofTree statements label index s root below
  pub unmarked : ¬ (IsMarkedWith proof_mark files s)
  pub derived : DerivesUnder profile (sentences (take index statements)) (sentence_of s) t
  pub small : IsSmallText (sentences (take index statements)) (sentence_of s) t text
  pub shorter : length text < bytes
  pub steps : ℕ
  pub own_steps : HasSteps (sentences (take index statements)) (sentence_of s)
      (tree root below none) steps
  pub count : ℕ
  pub counted : HasSteps (sentences (take index statements)) (sentence_of s) t count
  pub no_more : count ≤ steps
  pub allowed : (n place : ℕ) (a : PlainStatement)
      → IsUsedNumber (sentences (take index statements)) t n → ¬ (Uses statements id n)
      → IsAt statements n place a → MayUse files s a
  pub founded : (used n : ℕ) → IsUsedNumber (sentences (take index statements)) t used
      → IsUnfounded statements n → RestsThrough statements used n
      → RestsOn (Uses statements) id n

-- the text is the small proof of such a tree
abbrev pub IsShorterProof : Profile → List PlainFile → List PlainStatement → (label : List ℕ)
    → (bytes : ℕ) → (text : List ℕ) → Type 0
IsShorterProof profile files statements label bytes text =
    (t : Trees) × IsShorterTree profile files statements label bytes t text

-- The text is the small proof of the theorem with the label; or a shorter one, as it is found: that
-- each shorter one is found isn't said.
abbrev pub IsMinimized : Profile → List PlainFile → List PlainStatement → (label : List ℕ)
    → (text : List ℕ) → Type 0
IsMinimized profile files statements label text =
    (own : List ℕ) × IsSmallOf statements label own
    × ((text ≡ own) ⊎ IsShorterProof profile files statements label (length own) text)
