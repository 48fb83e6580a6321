-- The forms in which a theorem's proof is written anew: the normal proof, which is the spelling of
-- its tree, the packed one, which is the fully shared proof of its tree, and the small one, whose
-- labels are listed by use (the Metamath book, sections 4.3, 4.4.3 and 4.4.4, appendix B).
use Rattle.std.specs.Prelude.{◌≡◌, ℕ, ◌<◌, ◌≤◌, List, [], ◌∷◌, ◌++◌, take, length, slice_get, Some}
use Rattle.std.specs.Prelude.{Bool, true, false, codes}
use Rattle.mm_base.specs.Statement.{PlainStatement}
use Rattle.mm_code.specs.declared.code.Code.{Code}
use Rattle.mm_code.specs.Letters.{SpellsCodes, Letters}
use Rattle.mm_code.specs.Layout.{LaidOut, CompressedLaidOut}
use Rattle.mm_code.specs.SmallLayout.{SmallLaidOut}
use Rattle.mm_frame.specs.Sentence.{Sentence, sentence_of, IsLabelled}
use Rattle.mm_step.specs.Tree.{Trees, none, tree, spelling}
use Rattle.mm_step.specs.Moves.{Move}
use Rattle.mm_proof.specs.Tokens.{SayMoves}
use Rattle.mm_forms.specs.OneTree.{MakeRow, MakeTree}
use Rattle.mm_forms.specs.Sharing.{IsPacked}
use Rattle.mm_forms.specs.SmallProofs.{IsSmall}
use Rattle.mm_rules.specs.declared.ask.AskFault.{AskFault}
use Rattle.mm_rules.specs.declared.ask.AskFault.TheVariants.{Rule}
use Rattle.mm_rules.specs.declared.rule.AskRule.TheVariants.{L2}
use Rattle.mm_rules.specs.Verdict.{proof_of, is_proof, sentences}
use Rattle.mm_rules.specs.Rests.{IsAskFault}

-- the most labels of a normal proof that is written
abbrev pub most_labels : ℕ
most_labels = 16777216

-- The theorem with the label stands at this index, its proof is complete, and the moves that its
-- tokens say make this one tree.
pub record HasProofTree (statements : List PlainStatement) (label : List ℕ) (index : ℕ)
    (s : PlainStatement) (root : List ℕ) (below : Trees) : Type 0 where
  pub there : slice_get statements index ≡ Some s
  pub named : IsLabelled label (sentence_of s)
  pub complete : is_proof s ≡ true
  pub moves : List (Move (List ℕ))
  pub told : SayMoves (sentences (take index statements)) (sentence_of s) (proof_of s) moves
  pub made : MakeTree (sentences (take index statements)) moves root below

-- the text is the labels that the trees spell, in lines; they are no more than may be written
abbrev pub IsNormalText : Trees → (text : List ℕ) → Type 0
IsNormalText trees text = (length (spelling trees) ≤ most_labels) × LaidOut (spelling trees) text

-- The text is the fully shared proof of the trees, in lines: its listed labels, and the letters that
-- spell its codes, which are read from them again.
pub record IsPackedText (before : List Sentence) (s : Sentence) (trees : Trees)
    (text : List ℕ) : Type 0 where
  pub listed : List (List ℕ)
  pub codes : List Code
  pub letters : List ℕ
  pub packed : IsPacked before s trees listed codes
  pub spelled : SpellsCodes letters codes
  pub coded : Letters letters codes
  pub laid : CompressedLaidOut listed letters text

-- The trees have a small proof whose listed labels and letters stand so: the letters spell its
-- codes, which are read from them again.
pub record HasSmallProof (before : List Sentence) (s : Sentence) (trees : Trees)
    (Stand : List (List ℕ) → List ℕ → Type 0) : Type 0 where
  pub listed : List (List ℕ)
  pub codes : List Code
  pub letters : List ℕ
  pub small : IsSmall before s trees listed codes
  pub spelled : SpellsCodes letters codes
  pub coded : Letters letters codes
  pub laid : Stand listed letters

-- the text is the small proof of the trees, in the lines of packed proofs
abbrev pub IsSmallText : List Sentence → Sentence → Trees → (text : List ℕ) → Type 0
IsSmallText before s trees text =
    HasSmallProof before s trees (λ listed letters. CompressedLaidOut listed letters text)

-- the text is the small proof of the trees, in the lines that files have, behind so many spaces
abbrev pub IsSmallBehind : (indent : ℕ) → List Sentence → Sentence → Trees → (text : List ℕ)
    → Type 0
IsSmallBehind indent before s trees text =
    HasSmallProof before s trees (λ listed letters. SmallLaidOut indent listed letters text)

-- the text is the normal proof of the theorem with the label
abbrev pub IsNormalOf : List PlainStatement → (label : List ℕ) → (text : List ℕ) → Type 0
IsNormalOf statements label text =
    (index : ℕ) × (s : PlainStatement) × (root : List ℕ) × (below : Trees)
    × HasProofTree statements label index s root below
    × IsNormalText (tree root below none) text

-- the text is the packed proof of the theorem with the label
abbrev pub IsPackedOf : List PlainStatement → (label : List ℕ) → (text : List ℕ) → Type 0
IsPackedOf statements label text =
    (index : ℕ) × (s : PlainStatement) × (root : List ℕ) × (below : Trees)
    × HasProofTree statements label index s root below
    × IsPackedText (sentences (take index statements)) (sentence_of s) (tree root below none) text

-- the text is the small proof of the theorem with the label
abbrev pub IsSmallOf : List PlainStatement → (label : List ℕ) → (text : List ℕ) → Type 0
IsSmallOf statements label text =
    (index : ℕ) × (s : PlainStatement) × (root : List ℕ) × (below : Trees)
    × HasProofTree statements label index s root below
    × IsSmallText (sentences (take index statements)) (sentence_of s) (tree root below none) text

-- Why the theorem with the label has no normal proof that is written: besides the faults of each
-- question, that its tree spells more labels than may be written.
abbrev pub IsNormalFault : List PlainStatement → (label : List ℕ) → AskFault → Type 0
IsNormalFault statements label (Rule L2) =
    (index : ℕ) × (s : PlainStatement) × (root : List ℕ) × (below : Trees)
    × HasProofTree statements label index s root below
    × (most_labels < length (spelling (tree root below none)))
IsNormalFault statements label fault = IsAskFault statements label fault

-- ---- a proof as far as it is known

-- labels; where a proof is unfinished, a `?` behind them, for what isn't known of it
abbrev pub with_unknown : (unfinished : Bool) → (labels : List (List ℕ)) → List (List ℕ)
with_unknown false labels = labels
with_unknown true labels = labels ++ codes "?" ∷ []

-- the text is the normal proof that has these moves, or begins with them: the labels that their
-- trees spell, in lines; they are no more than may be written
abbrev pub IsBeginningText : (unfinished : Bool) → (before : List Sentence)
    → List (Move (List ℕ)) → (text : List ℕ) → Type 0
IsBeginningText unfinished before moves text =
    (row : Trees) × MakeRow before moves row × (length (spelling row) ≤ most_labels)
    × LaidOut (with_unknown unfinished (spelling row)) text

-- there is none that is written: their trees spell more labels than may be
abbrev pub IsBeginningTooLong : (before : List Sentence) → List (Move (List ℕ)) → Type 0
IsBeginningTooLong before moves =
    (row : Trees) × MakeRow before moves row × (most_labels < length (spelling row))
