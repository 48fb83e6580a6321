-- What the code knows of the pairs that a proof lacks on its way over the moves: it mirrors the
-- code.
use Rattle.std.specs.Prelude.{◌≡◌, ◌≢◌, ℕ, ◌<◌, ◌≤◌, List, [], ◌∷◌, ◌++◌, length, take, Contains}
use Rattle.std.specs.Prelude.{◌⊎◌, Option, Bool, true, false, MatchBool}
use Rattle.mm_frame.specs.Sentence.{Sentence}
use Rattle.mm_frame.specs.Active.{IsVariable}
use Rattle.mm_step.specs.declared.fault.ProofRule.{ProofRule}
use Rattle.mm_step.specs.declared.fault.ProofRule.TheVariants.{P12}
use Rattle.mm_step.specs.Substitution.{Symbol}
use Rattle.mm_step.specs.Moves.{Move, name}
use Rattle.mm_step.specs.Proof.{IsWithin, Passed, FirstAtMove, SomeReplacedPair, BreaksStep}
use Rattle.mm_step.specs.Proof.{proof_rank}
use Rattle.mm_step.specs.Steps.{IsNumberedMove, AreNumberedMoves}
use Rattle.mm_distinct.specs.Lacking.{with_pairs, PassElsewhere, AskDisjoint}
use Rattle.mm_step.specs.Mirror.CodeVerify.{name_at, all_names_at, AreStackEntries}
use Rattle.mm_step.specs.Mirror.CodeVerify.{EachPairValues, SomePairValues}
use Rattle.mm_step.specs.Mirror.CodeAsked.{IsMissingPair, HasEither, number_pairs}
use Rattle.mm_step.specs.Mirror.CodeAsked.{ArePutInOrder}
use Rattle.mm_step.specs.Mirror.Sites.{ProofSite}
use Rattle.mm_distinct.specs.declared.lacking.Seeker.{Seeker}

-- the missing pairs of the variables of two expressions were put among the others
pub record AddsBetween (statements : List Sentence) (index : ℕ) (e f : List ℕ)
    (old new : List (ℕ × ℕ)) : Type 0 where
  pub kept : (p : ℕ × ℕ) → Contains old p → Contains new p
  pub only : (p : ℕ × ℕ) → Contains new p
      → Contains old p
      ⊎ (IsMissingPair statements index p.0 p.1 × Contains e p.0 × Contains f p.1)
  pub each : (m n : ℕ) → IsMissingPair statements index m n → Contains e m → Contains f n
      → HasEither new (m, n)

-- the missing pairs of what replaces the members of each of these pairs were
pub record AddsLacking (statements : List Sentence) (index : ℕ) (σ : ℕ → Option (List ℕ))
    (pairs : List (ℕ × ℕ)) (old new : List (ℕ × ℕ)) : Type 0 where
  pub kept : (p : ℕ × ℕ) → Contains old p → Contains new p
  pub only : (p : ℕ × ℕ) → Contains new p
      → Contains old p
      ⊎ (IsMissingPair statements index p.0 p.1
      × SomePairValues σ pairs (λ e f. Contains e p.0 × Contains f p.1))
  pub each : EachPairValues σ pairs (λ e f.
      (m n : ℕ) → IsMissingPair statements index m n → Contains e m → Contains f n
      → HasEither new (m, n))

-- the pairs of names have those of the numbers, in one order or the other
abbrev pub Cover : List Sentence → List (ℕ × ℕ) → List (Symbol × Symbol) → Type 0
Cover statements numbers pairs =
    (p : ℕ × ℕ) → Contains numbers p
    → Contains pairs (name_at statements p.0, name_at statements p.1)
    ⊎ Contains pairs (name_at statements p.1, name_at statements p.0)

-- with a `$d` for each of these pairs, the step by the label with a number carries passed moves on
abbrev pub CarriesWith : (limit : ℕ) → List Sentence → (index id : ℕ) → (lacking : List (ℕ × ℕ))
    → (old new : List (List ℕ)) → Type 0
CarriesWith limit statements index id lacking old new =
    (pairs : List (Symbol × Symbol)) → Cover statements lacking pairs
    → (label : List ℕ) (moves : List (Move (List ℕ))) (kept : List (List (List ℕ)))
    → IsNumberedMove statements (name id) (name label)
    → Passed (IsWithin limit) (with_pairs (take index statements) pairs) moves
    (all_names_at statements old) kept
    → Passed (IsWithin limit) (with_pairs (take index statements) pairs) (moves ++ name label ∷ [])
    (all_names_at statements new) kept

-- with them, it breaks another rule than P12 first
abbrev pub StopsWith : (limit : ℕ) → List Sentence → (index id : ℕ) → (lacking : List (ℕ × ℕ))
    → (stack : List (List ℕ)) → Type 0
StopsWith limit statements index id lacking stack =
    (pairs : List (Symbol × Symbol)) → Cover statements lacking pairs
    → (label : List ℕ) (kept : List (List (List ℕ)))
    → IsNumberedMove statements (name id) (name label)
    → (rule : ProofRule) × (rule ≢ P12)
    × FirstAtMove (IsWithin limit) rule (with_pairs (take index statements) pairs)
    (all_names_at statements stack) kept (name label)

-- the numbers are those of two variables before the index that differ and aren't an active pair
pub record IsLackingPair (statements : List Sentence) (index : ℕ) (p : ℕ × ℕ) : Type 0 where
  pub missing : IsMissingPair statements index p.0 p.1
  pub first : IsVariable (take index statements) (name_at statements p.0)
  pub second : IsVariable (take index statements) (name_at statements p.1)

-- the step by the label breaks no rule that is judged before P12, and asks the pair to be active
pub record AsksForPair (limit : ℕ) (statements : List Sentence) (index : ℕ)
    (stack : List (List ℕ)) (p : ℕ × ℕ) (label : List ℕ) : Type 0 where
  pub unbroken : (other : ProofRule) → proof_rank other < proof_rank P12
      → ¬ (BreaksStep (IsWithin limit) other (take index statements)
      (all_names_at statements stack) label)
  pub asked : SomeReplacedPair (take index statements) (all_names_at statements stack) label
      (λ e f. Contains e (name_at statements p.0) × Contains f (name_at statements p.1))

-- the step by the label with a number does
abbrev pub AsksFor : (limit : ℕ) → List Sentence → (index id : ℕ) → (stack : List (List ℕ))
    → ℕ × ℕ → Type 0
AsksFor limit statements index id stack p =
    (label : List ℕ) → IsNumberedMove statements (name id) (name label)
    → AsksForPair limit statements index stack p label

-- The step by the label with a number was made, or it breaks another rule than P12; the pairs that
-- it lacks were put among the others.
pub record StepsWith (limit : ℕ) (statements : List Sentence) (index id : ℕ)
    (lacking lacking' : List (ℕ × ℕ)) (old new : List (List ℕ)) (made : Bool) : Type 0 where
  pub kept : (p : ℕ × ℕ) → Contains lacking p → Contains lacking' p
  pub asked : (p : ℕ × ℕ) → Contains lacking' p
      → Contains lacking p
      ⊎ (IsLackingPair statements index p × AsksFor limit statements index id old p)
  pub outcome : MatchBool
      made
      (CarriesWith limit statements index id lacking' old new)
      (StopsWith limit statements index id lacking' old)
  pub entries : AreStackEntries statements (take index statements) new

-- with a `$d` for each of the pairs, the moves passed, and left these lists of the store
pub record RunsWith (site : ProofSite) (lacking : List (ℕ × ℕ)) (prefix : List (Move ℕ))
    (stack kept : List (List ℕ)) : Type 0 where
  pub passed :
      (pairs : List (Symbol × Symbol)) → Cover site.statements lacking pairs
      → (moves : List (Move (List ℕ))) → AreNumberedMoves site.statements prefix moves
      → Passed (IsWithin site.limit) (with_pairs (take site.index site.statements) pairs) moves
      (all_names_at site.statements stack) (all_names_at site.statements kept)
  pub entries : AreStackEntries site.statements (take site.index site.statements) stack
  pub kept_entries : AreStackEntries site.statements (take site.index site.statements) kept

-- with them, they passed up to one that breaks another rule than P12
abbrev pub StoppedWith : ProofSite → (lacking : List (ℕ × ℕ)) → (prefix : List (Move ℕ)) → Type 0
StoppedWith site lacking prefix =
    (pairs : List (Symbol × Symbol)) → Cover site.statements lacking pairs
    → (moves : List (Move (List ℕ))) → AreNumberedMoves site.statements prefix moves
    → (p : PassElsewhere (IsWithin site.limit)
    (with_pairs (take site.index site.statements) pairs) moves)
    × (0 < length p.left)

-- the pairs differ, and each is asked for by a step of the moves
pub record AreFound (site : ProofSite) (lacking : List (ℕ × ℕ)) (prefix : List (Move ℕ)) : Type 0
  where
    pub variables : (p : ℕ × ℕ) → Contains lacking p
        → IsLackingPair site.statements site.index p
    pub asked :
        (p : ℕ × ℕ) → Contains lacking p → (pairs : List (Symbol × Symbol))
        → Cover site.statements lacking pairs → (moves : List (Move (List ℕ)))
        → AreNumberedMoves site.statements prefix moves
        → AskDisjoint (IsWithin site.limit) (with_pairs (take site.index site.statements) pairs) moves
        (name_at site.statements p.0) (name_at site.statements p.1)

-- The seeker has gone over the moves since the first state, in the same store and with the same
-- entries: with the pairs that it found they passed, or it stopped at one of them.
pub record HasSought {S : Type 0} (stack kept : S → List (List ℕ)) (first now : Seeker S)
    (prefix : List (Move ℕ)) : Type 0 where
  pub same_store : now.store.ghost_name ≡ first.store.ghost_name
  pub same_lacking : now.lacking.ghost_name ≡ first.lacking.ghost_name
  pub same_table : now.table ≡ first.table
  pub found : AreFound first.table.now.site (number_pairs now.lacking.now.items) prefix
  pub goes : now.stopped ≡ false
      → RunsWith first.table.now.site (number_pairs now.lacking.now.items) prefix
      (stack now.store.now) (kept now.store.now)
  pub tags : now.stopped ≡ false → now.kept ≡ length (kept now.store.now)
  pub ended : now.stopped ≡ true
      → StoppedWith first.table.now.site (number_pairs now.lacking.now.items) prefix
  pub few : now.kept ≤ length prefix

-- these are pairs that the moves lack, whatever names they stand for
abbrev pub AreLackingNumbers : ProofSite → (lacking : List (ℕ × ℕ)) → (steps : List (Move ℕ))
    → Type 0
AreLackingNumbers site lacking steps =
    AreFound site lacking steps
    × ((pairs : List (Symbol × Symbol)) → Cover site.statements lacking pairs
    → (moves : List (Move (List ℕ))) → AreNumberedMoves site.statements steps moves
    → PassElsewhere (IsWithin site.limit) (with_pairs (take site.index site.statements) pairs)
    moves)

-- those pairs, in order
abbrev pub AreLackingInOrder : ProofSite → (lacking : List (ℕ × ℕ)) → (steps : List (Move ℕ))
    → Type 0
AreLackingInOrder site lacking steps =
    (found : List (ℕ × ℕ)) × AreLackingNumbers site found steps × ArePutInOrder found lacking
