-- Laws of the trees that proofs spell, and of verdicts on proofs, most of them after statements
-- that break no rule of meaning. The proofs are those of the Metamath book, sections 4.1.4, 4.3 and
-- 4.4.3 and appendix B; the names of rules, the limit and the laws are this project's own.
use Rattle.std.specs.Prelude.{◌≡◌, ℕ, List, [], ◌∷◌, map}
use Rattle.std.specs.Prelude.{◌⊎◌, ◌↔◌}
use Rattle.mm_frame.specs.Sentence.{Sentence}
use Rattle.mm_frame.specs.Rules.{AllMeant}
use Rattle.mm_step.specs.declared.fault.ProofRule.{ProofRule}
use Rattle.mm_step.specs.declared.fault.ProofRule.TheVariants.{L1}
use Rattle.mm_step.specs.Tree.{Trees, none, tree, spelling, TreesFit, DeriveAll, AnyExpression}
use Rattle.mm_step.specs.Moves.{Move, Makes}
use Rattle.mm_proof.specs.Tokens.{IsNormal}
use Rattle.mm_proof.specs.Expansion.{Expands, IsWord}
use Rattle.mm_step.specs.Proof.{IsWithin}
use Rattle.mm_proof.specs.Proof.{IsWhole, Prove, IsProvedWithin, IsProved, IsFault}

-- Trees that fit are told by their spelling: no other trees that fit have it.
abbrev pub OneFit : Type 0
OneFit =
    (before : List Sentence) (t u : Trees)
    → AllMeant before → TreesFit before t → TreesFit before u
    → spelling t ≡ spelling u → t ≡ u

-- Trees that derive expressions fit, and so are told by their spelling; and they derive the same.
abbrev pub OneTree : Type 0
OneTree =
    (before : List Sentence) (t u : Trees) (es fs : List (List (List ℕ))) → AllMeant before
    → DeriveAll AnyExpression before t es → DeriveAll AnyExpression before u fs
    → spelling t ≡ spelling u → (t ≡ u) × (es ≡ fs)

-- What is proved within the limit is proved; what is proved is so within the limit, or its fault is
-- that a step passes the limit; and no other fault is one of what is proved.
abbrev pub LimitsAside : Type 0
LimitsAside =
    (limit : ℕ) (before : List Sentence) (s : Sentence) (tokens : List (List ℕ)) → AllMeant before
    → (IsProvedWithin (IsWithin limit) before s tokens → IsProved before s tokens)
    × (IsProved before s tokens → IsProvedWithin (IsWithin limit) before s tokens
    ⊎ ((step : ℕ) × IsFault (IsWithin limit) before s tokens L1 step))
    × (IsProved before s tokens → (rule : ProofRule) (step : ℕ)
    → IsFault (IsWithin limit) before s tokens rule step → rule ≡ L1)

-- Moves that make trees have a word, the spelling of these trees; the trees fit, and the words that
-- are kept are the spellings of the kept trees. Where the word of moves spells trees that fit, the
-- moves make these trees, and no others.
abbrev pub MadeByWord : Type 0
MadeByWord =
    (before : List Sentence) (moves : List (Move (List ℕ))) (trees : Trees)
    → ((kept : List Trees) → Makes before moves none [] trees kept
    → TreesFit before trees × Expands before moves [] [] (spelling trees) (map spelling kept))
    × (AllMeant before → TreesFit before trees → IsWord before moves (spelling trees)
    → (kept : List Trees) × Makes before moves none [] trees kept
    × ((others : Trees) (more : List Trees) → Makes before moves none [] others more
    → (others ≡ trees) × (more ≡ kept)))

-- the moves have a word, which spells one tree; and this tree derives the statement's expression
pub record ProveByWord (Fits : List (List ℕ) → Type 0) (before : List Sentence) (s : Sentence)
    (moves : List (Move (List ℕ))) : Type 0 where
  pub label : List ℕ
  pub below : Trees
  pub word : IsWord before moves (spelling (tree label below none))
  pub derived : DeriveAll Fits before (tree label below none) (s.symbols ∷ [])

-- Moves prove a statement exactly if their word spells a tree that derives its expression.
abbrev pub ByWordFor : (List (List ℕ) → Type 0) → Type 0
ByWordFor Fits =
    (before : List Sentence) (s : Sentence) (moves : List (Move (List ℕ))) → AllMeant before
    → Prove Fits before s moves ↔ ProveByWord Fits before s moves

abbrev pub ByWord : Type 0
ByWord = ByWordFor AnyExpression × ((limit : ℕ) → ByWordFor (IsWithin limit))

-- the labels spell one tree, which derives the statement's expression
pub record IsSpelledWithin (Fits : List (List ℕ) → Type 0) (before : List Sentence) (s : Sentence)
    (labels : List (List ℕ)) : Type 0 where
  pub label : List ℕ
  pub below : Trees
  pub spelled : spelling (tree label below none) ≡ labels
  pub derived : DeriveAll Fits before (tree label below none) (s.symbols ∷ [])

-- A normal proof that breaks no rule over the whole of it is one exactly if its labels spell a tree
-- that derives the expression.
abbrev pub BySpellingFor : (List (List ℕ) → Type 0) → Type 0
BySpellingFor Fits =
    (before : List Sentence) (s : Sentence) (tokens : List (List ℕ)) → AllMeant before
    → IsNormal tokens
    → IsProvedWithin Fits before s tokens
    ↔ (IsWhole before tokens × IsSpelledWithin Fits before s tokens)

abbrev pub BySpelling : Type 0
BySpelling = BySpellingFor AnyExpression × ((limit : ℕ) → BySpellingFor (IsWithin limit))
