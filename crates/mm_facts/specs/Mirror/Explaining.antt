-- What the code of an explanation knows on its way. This file mirrors the code, and is cited by
-- private contracts alone.
use Rattle.std.specs.Prelude.{◌≡◌, ◌≢◌, ◌<◌, ◌≤◌, ◌+◌, ℕ, [], ◌∷◌, ◌++◌, List, Bool, take, length}
use Rattle.std.specs.Prelude.{slice_get}
use Rattle.std.specs.Prelude.{Some, None, Option, unwrap_or, map, drop, filter, not, true, false}
use Rattle.mm_frame.specs.Sentence.{Sentence}
use Rattle.mm_frame.specs.Numbers.{AreNumbers, symbols_of}
use Rattle.mm_frame.specs.declared.number.Sym.{Sym}
use Rattle.mm_frame.specs.declared.hypothesis.Hypothesis.{Hypothesis}
use Rattle.mm_step.specs.declared.fault.ProofRule.{ProofRule}
use Rattle.mm_listing.specs.declared.halt.Halt.{Halt}
use Rattle.mm_step.specs.Substitution.{Expression, Symbol, Substitution}
use Rattle.mm_step.specs.Moves.{Move, name}
use Rattle.mm_step.specs.Steps.{IsProofNumber, AreSteps}
use Rattle.mm_step.specs.declared.profile.Profile.{Profile}
use Rattle.mm_proof.specs.Tokens.{is_incomplete, SayMoves}
use Rattle.mm_proof.specs.Proof.{IsWhole}
use Rattle.mm_step.specs.Proof.{MeetsHypotheses}
use Rattle.mm_proof.specs.Asked.{AsksFor, AreDeclared}
use Rattle.mm_step.specs.Mirror.CodeVerify.{name_at}
use Rattle.mm_proof.specs.Strict.{HasFormOf}
use Rattle.mm_proof.specs.Parsed.{OfProof, SaySteps}
use Rattle.mm_proof.specs.ReadSteps.{ReadSteps}
use Rattle.mm_proof.specs.Verified.{OfMoves}
use Rattle.mm_places.specs.WholePlaces.{IsWholePlace}
use Rattle.mm_step.specs.Profiles.{limit_of}
use Rattle.mm_frame.specs.Form.{IsSound}
use Rattle.mm_listing.specs.Halted.{HaltsProof}
use Rattle.mm_facts.specs.Explained.{Detail, details_text, AreStepDetails, AreMoveDetails}
use Rattle.mm_facts.specs.Explained.{judged_tokens, AreAsked, hypothesis_asks, AreDisjointDetails}
use Rattle.mm_facts.specs.Explained.{ArePairDetails, ArePairsAsked, IsTokensFault, is_unmet}
use Rattle.mm_facts.specs.Explained.{AreAskedInTurn, AreTypesAsked, AreListed}
use Rattle.mm_facts.specs.declared.details.Cause.{Cause}
use Rattle.mm_facts.specs.declared.details.Cause.TheVariants as cause
use Rattle.mm_facts.specs.declared.named_halt.NamedHalt.{NamedHalt}
use Rattle.mm_facts.specs.StepTexts.{IsStepText}
use Rattle.mm_base.specs.Token.{PlainToken}
use Rattle.mm_code.specs.Layout.{texts}
use Rattle.mm_code.specs.declared.code.Code.{Code}
use Rattle.mm_code.specs.declared.code.Code.TheVariants as codes
use Rattle.mm_text.specs.Files.{PlainFile}
use Rattle.std.specs.List.{AllZip, AllByRecursion, flat_map}
use Rattle.mm_frame.specs.declared.distinct.DistinctPair.{DistinctPair}
use Rattle.mm_rules.specs.Mirror.Explaining.{named_pairs}

-- the index, where the code there is that of a step, not of a mark
abbrev pub step_index : (index : ℕ) → Code → List ℕ
step_index index (codes.Number number) = index ∷ []
step_index index codes.Tag = []

-- those of the codes from an index on
abbrev pub step_indices_from : (index : ℕ) → List Code → List ℕ
step_indices_from index [] = []
step_indices_from index (code ∷ said) = step_index index code ++ step_indices_from (index + 1) said

-- what tells the steps that made the entries of the stack
abbrev pub told_steps : NamedHalt → List (List ℕ)
told_steps stop = map (λ t. t.items) stop.texts.items

-- the moves of a proof, or of a prefix of one, of the `$p` with the number stop so
pub record IsHaltOf (limit : ℕ) (statements : List Sentence) (id : ℕ) (halt : Halt) : Type 0 where
  pub index : ℕ
  pub s : Sentence
  pub proof : IsProofNumber statements id index s
  pub prefix : Bool
  pub moves : List (Move (List ℕ))
  pub halts : HaltsProof limit statements (take index statements) s prefix moves halt

-- These steps are those that the judged tokens say, which break no rule over all of them.
pub record AreJudgedSteps (profile : Profile) (statements : List Sentence) (id : ℕ)
    (tokens : List (List ℕ)) (steps : ReadSteps) : Type 0 where
  pub said : OfProof statements id
      (λ index s. SaySteps statements index s (judged_tokens tokens) steps.moves)
  pub usable : AreSteps statements id steps.moves
  pub form : OfProof statements id
      (λ index s. HasFormOf profile (take index statements) s (judged_tokens tokens))
  pub under : steps.profile ≡ profile
  pub prefix : steps.prefix ≡ is_incomplete tokens

-- the judged tokens break no rule over all of them
abbrev pub IsJudgedWhole : Profile → List Sentence → (id : ℕ) → (tokens : List (List ℕ)) → Type 0
IsJudgedWhole profile statements id tokens = OfProof statements id
    (λ index s. IsWhole (take index statements) (judged_tokens tokens)
    × HasFormOf profile (take index statements) s (judged_tokens tokens))

-- What causes the fault of the tokens by the rule at the step: a byte of one of them; or the steps
-- that the judged ones say, which stop there.
abbrev pub Causes : Profile → (statements : List Sentence) → (id : ℕ) → (tokens : List (List ℕ))
    → ProofRule → (step : ℕ) → Cause → Type 0
Causes profile statements id tokens rule step (cause.Token token byte text listed) =
    (step ≡ 0) × OfProof statements id
    (λ index s. IsWholePlace (take index statements) s (judged_tokens tokens) rule token byte)
    × (slice_get tokens token ≡ Some text.now) × (byte ≤ length text.now)
    × AreListed tokens (texts listed.items)
Causes profile statements id tokens rule step (cause.Moves steps stop) =
    (step ≢ 0) × AreJudgedSteps profile statements id tokens steps
    × OfMoves statements id steps.moves (λ index s moves. HaltsProof (limit_of steps.profile)
    statements (take index statements) s steps.prefix moves stop.halt)

-- That is the cause of the first fault of the tokens, as the proof of the `$p` with the number.
pub record IsCauseOf (profile : Profile) (statements : List Sentence) (id : ℕ)
    (tokens : List (List ℕ)) (rule : ProofRule) (step : ℕ) (it : Cause) : Type 0 where
  pub sound : IsSound statements
  pub fault : OfProof statements id
      (λ index s. IsTokensFault profile (take index statements) s tokens rule step)
  pub causes : Causes profile statements id tokens rule step it

-- The texts tell the steps that made the entries of the stack, where moves, which the tokens in the
-- files say, stop so.
abbrev pub AreStepTexts : List PlainFile → List PlainToken → List Sentence → (id : ℕ)
    → List (Move ℕ) → NamedHalt → Type 0
AreStepTexts files tokens statements id steps stop = OfMoves statements id steps
    (λ index s moves.
    AllZip (IsStepText files tokens moves) stop.halt.origins.items (told_steps stop))

-- those of the cause do
abbrev pub TellsSteps : List PlainFile → List PlainToken → List Sentence → (id : ℕ) → Cause
    → Type 0
TellsSteps files tokens statements id (cause.Token token byte text listed) = Unit {0}
TellsSteps files tokens statements id (cause.Moves steps stop) =
    AreStepTexts files tokens statements id steps.moves stop

-- moves that the judged ones of the tokens say stop so
abbrev pub StopsIn : (tokens : List (List ℕ)) → Halt → Type 0
StopsIn tokens halt =
    (limit : ℕ) × (statements : List Sentence) × (before : List Sentence) × (s : Sentence)
    × (prefix : Bool) × (moves : List (Move (List ℕ)))
    × SayMoves before s (judged_tokens tokens) moves
    × HaltsProof limit statements before s prefix moves halt

-- the symbols of these pairs have these numbers
abbrev pub AreNamedPairs : List Sentence → List (Sym × Sym) → List (Symbol × Symbol) → Type 0
AreNamedPairs statements pairs named =
    AreNumbers statements (map (λ p. p.0.0) pairs) (map (λ p. p.0) named)
    × AreNumbers statements (map (λ p. p.1.0) pairs) (map (λ p. p.1) named)

-- the numbers are those of an expression that is declared in the proof of the `$p` with the number
abbrev pub IsDeclaredIn : List Sentence → (id : ℕ) → (numbers : List ℕ) → Type 0
IsDeclaredIn statements id numbers =
    (index : ℕ) × (s : Sentence) × IsProofNumber statements id index s
    × (e : Expression) × AreNumbers statements numbers e × AreDeclared (take index statements) e

-- In that proof the text of the facts of a mandatory pair, which these replace, was added.
abbrev pub AddsDisjoint : List Sentence → (id : ℕ) → ProofRule → Sym × Sym → (e f : List ℕ)
    → (old new : List ℕ) → Type 0
AddsDisjoint statements id rule variables e f old new = OfProof statements id (λ index s.
    (x y : Expression) → AreNumbers statements e x → AreNumbers statements f y
    → AreDeclared (take index statements) x → AreDeclared (take index statements) y
    → (details : List Detail)
    × AreDisjointDetails (take index statements) rule (name_at statements variables.0.0)
    (name_at statements variables.1.0) x y details
    × (new ≡ old ++ details_text details))

-- these are the numbers of entries that are declared in the proof of the `$p` with the number
abbrev pub AreEntriesIn : List Sentence → (id : ℕ) → (entries : List (List ℕ)) → Type 0
AreEntriesIn statements id entries =
    (index : ℕ) × (s : Sentence) × IsProofNumber statements id index s
    × (given : List Expression) × AllZip (AreNumbers statements) entries given
    × AllByRecursion (AreDeclared (take index statements)) given

-- the pair is of symbols, and its indices are of so many entries
pub record IsPairWithin (statements : List Sentence) (count : ℕ) (pair : DistinctPair) : Type 0 where
  pub x : pair.variables.0.0 < length (symbols_of statements)
  pub y : pair.variables.1.0 < length (symbols_of statements)
  pub first : pair.indices.0 < count
  pub second : pair.indices.1 < count

-- what replaces the symbol with a number follows the first symbol of the entry at an index
abbrev pub ReplacesBy : List Sentence → Substitution → (given : List Expression) → (number : ℕ)
    → (index : ℕ) → Type 0
ReplacesBy statements σ given number index =
    (entry : Expression) → slice_get given index ≡ Some entry
    → σ (name_at statements number) ≡ Some (drop 1 entry)

-- In the proof the text of the facts of a mandatory pair was added, where these are the entries.
abbrev pub AddsPair : List Sentence → (id : ℕ) → ProofRule → (entries : List (List ℕ))
    → DistinctPair → (old new : List ℕ) → Type 0
AddsPair statements id rule entries pair old new = OfProof statements id (λ index s.
    (given : List Expression) → AllZip (AreNumbers statements) entries given
    → AllByRecursion (AreDeclared (take index statements)) given
    → (σ : Substitution) → ReplacesBy statements σ given pair.variables.0.0 pair.indices.0
    → ReplacesBy statements σ given pair.variables.1.0 pair.indices.1
    → (details : List Detail)
    × ArePairDetails (take index statements) rule σ
    (name_at statements pair.variables.0.0, name_at statements pair.variables.1.0) details
    × (new ≡ old ++ details_text details))

-- and of these pairs
abbrev pub AddsPairs : List Sentence → (id : ℕ) → ProofRule → (entries : List (List ℕ))
    → List DistinctPair → (old new : List ℕ) → Type 0
AddsPairs statements id rule entries pairs old new = OfProof statements id (λ index s.
    (given : List Expression) → AllZip (AreNumbers statements) entries given
    → AllByRecursion (AreDeclared (take index statements)) given
    → (σ : Substitution)
    → ((i : ℕ) (pair : DistinctPair) → slice_get pairs i ≡ Some pair
    → ReplacesBy statements σ given pair.variables.0.0 pair.indices.0
    × ReplacesBy statements σ given pair.variables.1.0 pair.indices.1)
    → (told : List (List Detail))
    × AllZip (ArePairDetails (take index statements) rule σ) (named_pairs statements pairs) told
    × (new ≡ old ++ details_text (flat_map (λ own. own) told)))

-- what facts are told where moves stop: of the statements before, the statement, the stack, the
-- kept trees, what tells the steps that made the stack, and the moves that are left
abbrev pub HaltFacts : Type 1
HaltFacts =
    (before : List Sentence) → Sentence → (stack kept : List Expression) → (steps : List (List ℕ))
    → (left : List (Move (List ℕ))) → List Detail → Type 0

-- Wherever the moves of the `$p` with the number stop so, the text of such facts was added.
abbrev pub AddsAtHalt : (limit : ℕ) → List Sentence → (id : ℕ) → NamedHalt → HaltFacts
    → (old new : List ℕ) → Type 0
AddsAtHalt limit statements id stop Facts old new =
    (index : ℕ) (s : Sentence) (prefix : Bool) (moves : List (Move (List ℕ)))
    → IsProofNumber statements id index s
    → (h : HaltsProof limit statements (take index statements) s prefix moves stop.halt)
    → (details : List Detail)
    × Facts (take index statements) s h.there.stack h.there.kept (told_steps stop) h.there.left
    details × (new ≡ old ++ details_text details)

-- the facts of the step by a label that breaks the rule, behind that label
abbrev pub StepFacts : (limit : ℕ) → ProofRule → HaltFacts
StepFacts limit rule before s stack kept steps left details =
    (label : List ℕ) × (more : List (Move (List ℕ))) × (left ≡ name label ∷ more)
    × AreStepDetails limit before stack steps label rule details

-- and those with it
abbrev pub LabelFacts : (limit : ℕ) → ProofRule → HaltFacts
LabelFacts limit rule before s stack kept steps left details =
    (label : List ℕ) × (more : List (Move (List ℕ))) × (left ≡ name label ∷ more)
    × AreMoveDetails limit before stack kept steps (name label) rule details

-- whether the facts of a hypothesis are told, where those that aren't met are, or where the others
-- are
abbrev pub is_told : (unmet : Bool) → Detail → Bool
is_told true detail = is_unmet detail
is_told false detail = not (is_unmet detail)

-- what the hypotheses of the assertion ask that aren't met, or the others
abbrev pub AskedFacts : (unmet : Bool) → HaltFacts
AskedFacts unmet before s stack kept steps left details =
    (label : List ℕ) × (more : List (Move (List ℕ))) × (left ≡ name label ∷ more)
    × (all : List Detail) × AreAsked before stack steps label all
    × (details ≡ filter (is_told unmet) all)

-- what all of them ask, those first that aren't met
abbrev pub TurnFacts : HaltFacts
TurnFacts before s stack kept steps left details =
    (label : List ℕ) × (more : List (Move (List ℕ))) × (left ≡ name label ∷ more)
    × AreAskedInTurn before stack steps label details

-- which types they ask for
abbrev pub TypeFacts : HaltFacts
TypeFacts before s stack kept steps left details =
    (label : List ℕ) × (more : List (Move (List ℕ))) × (left ≡ name label ∷ more)
    × AreTypesAsked before stack steps label details

-- the numbers begin with the type code, if there is one
abbrev pub HasOwnCode : Option (Sym × Sym) → (numbers : List ℕ) → Type 0
HasOwnCode None numbers = Unit {0}
HasOwnCode (Some typing) numbers = slice_get numbers 0 ≡ Some typing.0.0

-- each of so many hypotheses has an entry that begins with its type code, if it has one
abbrev pub HaveOwnCodes : List Hypothesis → (entries : List (List ℕ)) → (count : ℕ) → Type 0
HaveOwnCodes hypotheses entries count =
    (i : ℕ) (h : Hypothesis) (numbers : List ℕ) → i < count → slice_get hypotheses i ≡ Some h
    → slice_get entries i ≡ Some numbers → HasOwnCode h.typing numbers

-- there is a type code, with which the numbers don't begin
abbrev pub HasOtherCode : Option (Sym × Sym) → (numbers : List ℕ) → (code : Sym) → Type 0
HasOtherCode typing numbers code =
    (x : Sym) × (typing ≡ Some (code, x)) × (slice_get numbers 0 ≢ Some code.0)

-- The first hypothesis whose entry doesn't begin with its type code stands at this index.
pub record IsFirstOfOtherCode (hypotheses : List Hypothesis) (entries : List (List ℕ))
    (index : ℕ) (code : Sym) : Type 0 where
  pub hypothesis : Hypothesis
  pub its : slice_get hypotheses index ≡ Some hypothesis
  pub numbers : List ℕ
  pub entry : slice_get entries index ≡ Some numbers
  pub other : HasOtherCode hypothesis.typing numbers code
  pub before : HaveOwnCodes hypotheses entries index

-- what its mandatory pairs ask
abbrev pub DisjointFacts : ProofRule → HaltFacts
DisjointFacts rule before s stack kept steps left details =
    (label : List ℕ) × (more : List (Move (List ℕ))) × (left ≡ name label ∷ more)
    × ArePairsAsked before rule stack label details

-- What so many hypotheses of the assertion ask was added, in order, of those that aren't met, or of
-- the others.
pub record AskedSoFar (unmet : Bool) (before : List Sentence) (stack : List Expression)
    (steps : List (List ℕ)) (label : List ℕ) (m : MeetsHypotheses before stack label) (count : ℕ)
    (old new : List ℕ) : Type 0 where
  pub details : List Detail
  pub told : new ≡ old ++ details_text (filter (is_told unmet) details)
  pub counted : length details ≡ count
  pub each : (i : ℕ) (h : Sentence) (given : Expression) (step : List ℕ) → i < count
      → slice_get m.hypotheses i ≡ Some h → slice_get m.entries i ≡ Some given
      → slice_get steps (length m.rest + i) ≡ Some step
      → (asked : Expression) × AsksFor before stack label i asked
      × (slice_get details i
      ≡ Some (hypothesis_asks (unwrap_or h.label []) asked step given))
