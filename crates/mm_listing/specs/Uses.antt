-- What each step of a proof uses: the steps that gave it its hypotheses; and the steps that are
-- reached from those that made what is left, which in a whole proof is the last one (the Metamath
-- book, sections 4.1.4, 4.3 and 4.4.3, appendix B). How it is told is this project's own.
use Rattle.std.specs.Prelude.{◌≡◌, ℕ, ◌+◌, ◌-◌, ◌<◌, List, [], ◌++◌, length, map, take, slice_get}
use Rattle.std.specs.Prelude.{Some, not}
use Rattle.std.specs.Prelude.{slice_index_or, Vec, Bool, true, false, IsTrue, Contains, ◌⊎◌, ◌↔◌}
use Rattle.std.specs.List.{AllZip}
use Rattle.mm_base.specs.declared.statement.Kind.TheVariants.{Essential}
use Rattle.mm_frame.specs.Sentence.{Sentence, IsHypothesis, IsLabelled}
use Rattle.mm_frame.specs.Active.{SomeActive}
use Rattle.mm_frame.specs.Frame.{AreThose}
use Rattle.mm_step.specs.Substitution.{Expression}
use Rattle.mm_step.specs.Tree.{AnyExpression, Names}
use Rattle.mm_step.specs.Moves.{Move, name, again, mark, is_step, steps_in}
use Rattle.mm_step.specs.Proof.{Passed}
use Rattle.mm_listing.specs.declared.lines.Line.{Line}
use Rattle.mm_listing.specs.Listing.{StandsAfter, AreLinesWith}
use Rattle.mm_listing.specs.Halted.{AreOrigins}

-- Something is told of each step of the moves, in order: of the step by a move after others it is
-- told so.
pub record AreOfSteps {X Y : Type 0} (Told : List (Move X) → Move X → Y → Type 0)
    (moves : List (Move X)) (all : List Y) : Type 0 where
  pub count : length all ≡ steps_in moves
  pub each : (index : ℕ) (move : Move X) (told : Y)
      → slice_get moves index ≡ Some move → is_step move ≡ true
      → slice_get all (steps_in (take index moves)) ≡ Some told
      → Told (take index moves) move told

-- ---- steps by tags

-- The step by a move after these stands for the step by a label with this number, from 1 on: a step
-- by a label for itself, and one by a tag for what the step stands for that its tag stands after.
abbrev pub StandsFor : {X : Type 0} → (sources : List ℕ) → (earlier : List (Move X)) → Move X
    → (source : ℕ) → Type 0
StandsFor sources earlier (name label) source = source ≡ steps_in earlier + 1
StandsFor sources earlier (again tag) source =
    (index : ℕ) × StandsAfter earlier tag (index + 1) × (slice_get sources index ≡ Some source)
StandsFor sources earlier mark source = ⊥

-- these are the steps by labels that the steps of the moves stand for
abbrev pub AreSources : {X : Type 0} → List (Move X) → (sources : List ℕ) → Type 0
AreSources moves sources = AreOfSteps (StandsFor sources) moves sources

-- ---- what a step uses

-- The roots of the moves, all steps by labels: the moves left a stack, whose entries, the lowest
-- first, were made by steps that stand for them.
pub record AreRoots (before : List Sentence) (moves : List (Move (List ℕ)))
    (roots : List ℕ) : Type 0 where
  pub stack : List Expression
  pub kept : List Expression
  pub passed : Passed AnyExpression before moves stack kept
  pub origins : List ℕ
  pub made : AreOrigins AnyExpression before moves stack origins
  pub sources : List ℕ
  pub resolved : AreSources moves sources
  pub given : AllZip (λ origin root. slice_get sources (origin - 1) ≡ Some root) origins roots

-- the steps with these numbers give the hypotheses to a step after the moves: they are the last of
-- the roots, one for each hypothesis
abbrev pub Give : List Sentence → List (Move (List ℕ)) → (hypotheses : List Sentence)
    → (operands : List ℕ) → Type 0
Give before moves hypotheses operands =
    (others : List ℕ) × AreRoots before moves (others ++ operands)
    × (length operands ≡ length hypotheses)

-- It is asked who gives the hypothesis at an index: of any, or of each `$e` alone.
abbrev pub IsAsked : (essential : Bool) → (hypotheses : List Sentence) → (index : ℕ) → Type 0
IsAsked false hypotheses index = Unit {0}
IsAsked true hypotheses index =
    (h : Sentence) × (slice_get hypotheses index ≡ Some h) × (h.kind ≡ Essential)

-- The step by a move after these uses the steps with these numbers: those that give the hypotheses
-- that are asked for, in order. A hypothesis has none, and a step by a tag is told to use none.
abbrev pub IsUsing : (essential : Bool) → List Sentence → (earlier : List (Move (List ℕ)))
    → Move (List ℕ) → (used : List ℕ) → Type 0
IsUsing essential before earlier (name label) used =
    ((used ≡ []) × SomeActive before (λ h. IsLabelled label h × IsHypothesis h.kind))
    ⊎ ((index : ℕ) × (assertion : Sentence) × (hypotheses : List Sentence)
    × Names before label index assertion hypotheses × (operands : List ℕ)
    × Give before earlier hypotheses operands
    × AreThose (λ i operand. IsAsked essential hypotheses i) 0 operands used)
IsUsing essential before earlier (again tag) used = used ≡ []
IsUsing essential before earlier mark used = ⊥

-- these are the uses of the steps of the moves, a row for each
abbrev pub AreUses : (essential : Bool) → List Sentence → List (Move (List ℕ))
    → (rows : List (List ℕ)) → Type 0
AreUses essential before moves rows = AreOfSteps (IsUsing essential before) moves rows

-- the rows that lists hold
abbrev pub rows_of : {Z : Type 0} → List (Vec ℕ Z) → List (List ℕ)
rows_of lists = map (λ list. list.items) lists

-- The steps of the moves have these lines, without expressions where it is asked for `$e` alone, and
-- these uses; and these are the roots.
abbrev pub AreLinked : (essential : Bool) → List Sentence → (before : List Sentence)
    → List (Move (List ℕ)) → List Line → (rows : List (List ℕ)) → (roots : List ℕ) → Type 0
AreLinked essential statements before moves lines rows roots =
    AreLinesWith statements before moves (λ step. not essential) lines
    × AreUses essential before moves rows × AreRoots before moves roots

-- ---- what is reached from the roots

-- the step at an index, from 0 on, is reached
abbrev pub IsReached : (reached : List Bool) → (index : ℕ) → Type 0
IsReached reached index = IsTrue (slice_index_or reached index false)

-- one of the steps that are reached uses the step at the index
abbrev pub IsUsedByReached : (rows : List (List ℕ)) → (reached : List Bool) → (index : ℕ) → Type 0
IsUsedByReached rows reached index =
    (user : ℕ) × (used : List ℕ) × IsReached reached user × (slice_get rows user ≡ Some used)
    × Contains used (index + 1)

-- Of the steps with these uses those are reached that are roots or are used by one that is reached. A
-- step uses earlier ones alone, so there is one such list.
pub record AreReached (roots : List ℕ) (rows : List (List ℕ)) (reached : List Bool) : Type 0 where
  pub count : length reached ≡ length rows
  pub each : (index : ℕ) → index < length reached
      → IsReached reached index ↔ (Contains roots (index + 1) ⊎ IsUsedByReached rows reached index)
