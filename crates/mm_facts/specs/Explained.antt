-- What explains a fault of a proof: facts, and the text that tells them, which is this project's
-- own.
use Rattle.std.specs.Prelude.{◌≡◌, ◌≢◌, ◌<◌, ℕ, suc, ◌+◌, List, [], ◌∷◌, ◌++◌, map, length, codes}
use Rattle.std.specs.Prelude.{true, false, ◌⊎◌, if◌then◌else◌, nat_lt, Option, Some, None, decimal}
use Rattle.std.specs.Prelude.{unwrap_or, option_map, slice_get, take, Contains, filter, not}
use Rattle.std.specs.Prelude.{Bool, ◌||◌, is_some}
use Rattle.std.specs.List.{flat_map, AllZip}
use Rattle.std.specs.Str.{bytes_eq}
use Rattle.mm_base.specs.declared.statement.Kind.TheVariants.{Floating}
use Rattle.mm_base.specs.Token.{PlainToken}
use Rattle.mm_text.specs.Files.{PlainFile}
use Rattle.mm_code.specs.Words.{texts_of}
use Rattle.mm_frame.specs.Sentence.{Sentence, Types}
use Rattle.mm_frame.specs.Numbers.{labelled_sentences}
use Rattle.mm_frame.specs.Frame.{AreThose}
use Rattle.mm_step.specs.declared.fault.ProofRule.{ProofRule}
use Rattle.mm_step.specs.declared.fault.ProofRule.TheVariants.{P2, P3, P4, P8, P9, P10}
use Rattle.mm_step.specs.declared.fault.ProofRule.TheVariants.{P11, P12, P14, P15, L1}
use Rattle.mm_step.specs.declared.profile.Profile.{Profile}
use Rattle.mm_step.specs.Substitution.{Symbol, Expression, Substitution}
use Rattle.mm_step.specs.Tree.{Names}
use Rattle.mm_step.specs.Moves.{Move, name, again, mark, steps_in}
use Rattle.mm_proof.specs.Tokens.{is_incomplete, IsCompressed, SayMoves}
use Rattle.mm_step.specs.Proof.{IsWithin, MeetsHypotheses}
use Rattle.mm_step.specs.Steps.{IsUsable}
use Rattle.mm_proof.specs.CheckedPrefix.{checked_prefix}
use Rattle.mm_step.specs.Profiles.{limit_of}
use Rattle.mm_listing.specs.Halted.{Halts}
use Rattle.mm_proof.specs.Asked.{AsksFor, AreShared, AreMissing, IsEarlier, IsEarlierPair}
use Rattle.mm_proof.specs.Asked.{StandInOrder}
use Rattle.mm_distinct.specs.Lacking.{AreLacking}
use Rattle.mm_places.specs.WholePlaces.{IsWholePlace}
use Rattle.mm_proof.specs.UnderProfile.{IsFaultUnder, IsPrefixFaultUnder}
use Rattle.mm_rules.specs.Shown.{symbols_text}
use Rattle.mm_rules.specs.Explained.{AreMandatoryPairs}
use Rattle.mm_near.specs.Near.{AreNearest, joined}
use Rattle.mm_facts.specs.StepTexts.{IsStepText}

-- a fact about a fault
pub data Detail : Type 0 where
  -- the token at fault
  token_at_fault : (text : List ℕ) → Detail
  -- what is missing before that token
  missing_before : (what : List ℕ) → Detail
  -- the labels of earlier statements, to which that token is near
  near_labels : (labels : List (List ℕ)) → Detail
  -- the label of the step
  step_label : (label : List ℕ) → Detail
  -- the step repeats what the mark with a number, from 1 on, keeps, or a later one if its number is
  -- above 4,294,967,295, and there are so many marks
  mark_asked : (wanted there : ℕ) → Detail
  -- the step takes so many entries, and so many are there
  entry_counts : (needed there : ℕ) → Detail
  -- what a hypothesis states
  hypothesis_stated : (label : List ℕ) → (stated : Expression) → Detail
  -- what the step that is told so gives
  entry_given : (step : List ℕ) → (given : Expression) → Detail
  -- the type code that a `$f` asks for, and the entry of another one, which the step gives
  type_asked : (label code : List ℕ) → (step : List ℕ) → (given : Expression) → Detail
  -- the type codes that the step takes, and those of the entries that it gets
  types_taken : (taken given : List Symbol) → Detail
  -- what a hypothesis asks of the entry that the step gives
  hypothesis_asks :
      (label : List ℕ) → (asked : Expression) → (step : List ℕ) → (given : Expression) → Detail
  -- two variables that must stay apart, and what replaces them
  pair_asked : (x y : Symbol) → (e f : List Symbol) → Detail
  -- the variables that both have
  shared_by_both : (variables : List Symbol) → Detail
  -- two variables of a `$d` that this step lacks
  step_lacks : (x y : Symbol) → Detail
  -- two variables of a `$d` that the whole proof lacks
  missing_pair : (x y : Symbol) → Detail
  -- what is to be proved, and what the step gives
  end_given : (expression : Expression) → (step : List ℕ) → (given : Expression) → Detail
  -- the most symbols that an expression may have
  most_symbols : (symbols : ℕ) → Detail
  -- the place where began what the fault stands in
  begun_at : (place : List ℕ) → Detail
  -- the place where the last block is closed
  last_closed_at : (place : List ℕ) → Detail
  -- the place where the block begins in which the statement stands, and the lines that show it, if
  -- they are asked for
  block_opened : (place source : List ℕ) → Detail
  -- the place where the symbol was declared
  declared_at : (place : List ℕ) → Detail
  -- the place where it stands before in the statement
  repeated_at : (place : List ℕ) → Detail
  -- the place where it is a label
  labelled_at : (place : List ℕ) → Detail
  -- the place of the `$f` that gave the variable its type code
  typed_at : (place : List ℕ) → Detail
  -- the place where the hypothesis is stated
  stated_at : (place : List ℕ) → Detail
  -- the place where the block ends in which it stands
  block_ended_at : (place : List ℕ) → Detail
  -- the hypotheses of the theorem itself follow
  its_hypotheses : Detail
  -- one of them: the place where it is stated, and its label
  hypothesis_at : (place label : List ℕ) → Detail
  -- the place of a later statement, whose label the token at fault is
  stated_later_at : (place : List ℕ) → Detail

-- ---- the fault

-- The first fault of the tokens, as the proof of the `$p` in the profile: of all of them, if they
-- are complete, else of what is known of them.
abbrev pub IsTokensFault : Profile → (before : List Sentence) → Sentence → (tokens : List (List ℕ))
    → ProofRule → (step : ℕ) → Type 0
IsTokensFault profile before s tokens rule step =
    ((is_incomplete tokens ≡ false) × IsFaultUnder profile before s tokens rule step)
    ⊎ ((is_incomplete tokens ≡ true) × IsPrefixFaultUnder profile before s tokens rule step)

-- the tokens that are judged: all of them, if they are complete, else those of the known prefix
abbrev pub judged_tokens : List (List ℕ) → List (List ℕ)
judged_tokens tokens = if is_incomplete tokens then checked_prefix tokens else tokens

-- The moves that the judged tokens say stop with this rule; with none, where they pass and nothing
-- is at fault.
pub record TokensHalt (profile : Profile) (before : List Sentence) (s : Sentence)
    (tokens : List (List ℕ)) (rule : Option ProofRule) : Type 0 where
  pub moves : List (Move (List ℕ))
  pub said : SayMoves before s (judged_tokens tokens) moves
  pub halts : Halts (IsWithin (limit_of profile)) before s (is_incomplete tokens) moves rule

-- ---- facts

-- what the hypotheses state, in order
abbrev pub hypotheses_stated : List Sentence → List Detail
hypotheses_stated hypotheses =
    map (λ h. hypothesis_stated (unwrap_or h.label []) h.symbols) hypotheses

-- what the entries of a stack are, the lowest first, each with the step that made it
abbrev pub entries_given : (steps : List (List ℕ)) → (stack : List Expression) → List Detail
entries_given (step ∷ steps) (entry ∷ stack) = entry_given step entry ∷ entries_given steps stack
entries_given steps stack = []

-- What each mandatory hypothesis of the assertion with the label asks, in order, where the step by
-- it is made on this stack, whose entries these steps made; and the entry, with its step.
pub record AreAsked (before : List Sentence) (stack : List Expression) (steps : List (List ℕ))
    (label : List ℕ) (details : List Detail) : Type 0 where
  pub met : MeetsHypotheses before stack label
  pub count : length details ≡ length met.hypotheses
  pub each : (i : ℕ) (h : Sentence) (given : Expression) (step : List ℕ)
      → slice_get met.hypotheses i ≡ Some h → slice_get met.entries i ≡ Some given
      → slice_get steps (length met.rest + i) ≡ Some step
      → (asked : Expression) × AsksFor before stack label i asked
      × (slice_get details i
      ≡ Some (hypothesis_asks (unwrap_or h.label []) asked step given))

-- the index, from 0 on, of the first symbol at which two expressions differ; none where they are
-- the same
abbrev pub difference : Expression → Expression → Option ℕ
difference [] [] = None
difference (x ∷ e) (y ∷ f) = if bytes_eq x y then option_map suc (difference e f) else Some 0
difference e f = Some 0

-- whether they are those of a hypothesis that isn't met: it asks something else than it gets
abbrev pub is_unmet : Detail → Bool
is_unmet (hypothesis_asks label asked step given) = is_some (difference asked given)
is_unmet detail = false

-- The same, those of the hypotheses that aren't met first.
abbrev pub AreAskedInTurn : (before : List Sentence) → (stack : List Expression)
    → (steps : List (List ℕ)) → (label : List ℕ) → List Detail → Type 0
AreAskedInTurn before stack steps label details =
    (all : List Detail) × AreAsked before stack steps label all
    × (details ≡ filter is_unmet all ++ filter (λ d. not (is_unmet d)) all)

-- the type codes of expressions, which are their first symbols
abbrev pub type_codes : List Expression → List Symbol
type_codes expressions = flat_map (take 1) expressions

-- Of the mandatory hypotheses of the assertion with the label, where the step by it is made on this
-- stack, whose entries these steps made: the first `$f` whose entry has another type code, and that
-- entry, with its step; and the type codes of all.
pub record AreTypesAsked (before : List Sentence) (stack : List Expression)
    (steps : List (List ℕ)) (label : List ℕ) (details : List Detail) : Type 0 where
  pub met : MeetsHypotheses before stack label
  pub index : ℕ
  pub hypothesis : Sentence
  pub given : Expression
  pub step : List ℕ
  pub its : slice_get met.hypotheses index ≡ Some hypothesis
  pub entry : slice_get met.entries index ≡ Some given
  pub origin : slice_get steps (length met.rest + index) ≡ Some step
  pub code : Symbol
  pub variable : Symbol
  pub typed : Types code variable hypothesis
  pub other : slice_get given 0 ≢ Some code
  pub first : (i : ℕ) (h : Sentence) (e : Expression) → i < index
      → slice_get met.hypotheses i ≡ Some h → slice_get met.entries i ≡ Some e
      → h.kind ≡ Floating → slice_get e 0 ≡ slice_get h.symbols 0
  pub told : details ≡ type_asked (unwrap_or hypothesis.label []) code step given
      ∷ types_taken (type_codes (map (λ h. h.symbols) met.hypotheses)) (type_codes met.entries)
      ∷ []

-- these facts, where there is something that they are of
abbrev pub told_of : {X : Type 0} → List X → List Detail → List Detail
told_of [] details = []
told_of (x ∷ xs) details = details

-- The facts of a mandatory pair whose members these replace: for P11 they tell of the pair where
-- both share variables, for P12 where a `$d` of their variables is missing, and of each that is.
abbrev pub AreDisjointDetails : (before : List Sentence) → ProofRule → (x y : Symbol)
    → (e f : Expression) → List Detail → Type 0
AreDisjointDetails before P11 x y e f details =
    (shared : List Symbol) × AreShared before e f shared
    × (details ≡ told_of shared (pair_asked x y e f ∷ shared_by_both shared ∷ []))
AreDisjointDetails before P12 x y e f details =
    (missing : List (Symbol × Symbol)) × AreMissing before e f missing
    × (details ≡ told_of missing (pair_asked x y e f ∷ map (λ p. step_lacks p.0 p.1) missing))
AreDisjointDetails before rule x y e f details = details ≡ []

-- those of the pair, under this substitution
abbrev pub ArePairDetails : (before : List Sentence) → ProofRule → Substitution
    → Symbol × Symbol → List Detail → Type 0
ArePairDetails before rule σ pair details =
    (e : Expression) × (f : Expression) × (σ pair.0 ≡ Some e) × (σ pair.1 ≡ Some f)
    × AreDisjointDetails before rule pair.0 pair.1 e f details

-- What the step by the label on this stack tells of each mandatory pair of its assertion, in the
-- order of the declarations of their variables, of which the one that was declared first stands
-- first.
pub record ArePairsAsked (before : List Sentence) (rule : ProofRule) (stack : List Expression)
    (label : List ℕ) (details : List Detail) : Type 0 where
  pub met : MeetsHypotheses before stack label
  pub pairs : List (Symbol × Symbol)
  pub mandatory : AreMandatoryPairs (take met.index before) met.assertion pairs
  pub turned : (p : Symbol × Symbol) → Contains pairs p → IsEarlier before p.0 p.1
  pub in_order : StandInOrder (IsEarlierPair before) pairs
  pub told : List (List Detail)
  pub each : AllZip (ArePairDetails before rule met.σ) pairs told
  pub all : details ≡ flat_map (λ own. own) told

-- The facts of the step by a label that breaks the rule on this stack, whose entries these steps
-- made, behind that label.
abbrev pub AreStepDetails : (limit : ℕ) → (before : List Sentence) → (stack : List Expression)
    → (steps : List (List ℕ)) → (label : List ℕ) → ProofRule → List Detail → Type 0
AreStepDetails limit before stack steps label P8 details =
    (index : ℕ) × (assertion : Sentence) × (hypotheses : List Sentence)
    × Names before label index assertion hypotheses
    × (details ≡ entry_counts (length hypotheses) (length stack)
    ∷ (hypotheses_stated hypotheses ++ entries_given steps stack))
AreStepDetails limit before stack steps label P9 details =
    AreTypesAsked before stack steps label details
AreStepDetails limit before stack steps label P10 details =
    AreAskedInTurn before stack steps label details
AreStepDetails limit before stack steps label P11 details =
    ArePairsAsked before P11 stack label details
AreStepDetails limit before stack steps label P12 details =
    ArePairsAsked before P12 stack label details
AreStepDetails limit before stack steps label L1 details = details ≡ most_symbols limit ∷ []
AreStepDetails limit before stack steps label rule details = details ≡ []

-- the facts of the move that breaks the rule there, where so many trees are kept
abbrev pub AreMoveDetails : (limit : ℕ) → (before : List Sentence) → (stack kept : List Expression)
    → (steps : List (List ℕ)) → Move (List ℕ) → ProofRule → List Detail → Type 0
AreMoveDetails limit before stack kept steps (name label) rule details =
    (others : List Detail) × AreStepDetails limit before stack steps label rule others
    × (details ≡ step_label label ∷ others)
AreMoveDetails limit before stack kept steps (again tag) rule details =
    details ≡ mark_asked (tag + 1) (length kept) ∷ []
AreMoveDetails limit before stack kept steps mark rule details = details ≡ []

-- the facts of what all moves leave on the stack, where it breaks the rule
abbrev pub AreEndDetails : Sentence → (stack : List Expression) → (steps : List (List ℕ)) → ProofRule
    → List Detail → Type 0
AreEndDetails s stack steps P14 details =
    (given : Expression) × (step : List ℕ) × (stack ≡ given ∷ []) × (steps ≡ step ∷ [])
    × (details ≡ end_given s.symbols step given ∷ [])
AreEndDetails s stack steps rule details = details ≡ entries_given steps stack

-- The facts of the place where moves stop by the rule: of the first move that is left, or of the
-- end.
abbrev pub AreHaltDetails : (limit : ℕ) → (before : List Sentence) → Sentence
    → (stack kept : List Expression) → (steps : List (List ℕ)) → (left : List (Move (List ℕ)))
    → ProofRule → List Detail → Type 0
AreHaltDetails limit before s stack kept steps [] rule details =
    AreEndDetails s stack steps rule details
AreHaltDetails limit before s stack kept steps (move ∷ more) rule details =
    AreMoveDetails limit before stack kept steps move rule details

-- the `$d` statements of these pairs, in order
abbrev pub pairs_lacking : List (Symbol × Symbol) → List Detail
pairs_lacking pairs = map (λ p. missing_pair p.0 p.1) pairs

-- The facts of the moves as a whole, which stop by the rule: for P12 the `$d` statements that they
-- lack, those behind the place where they stop too, up to the first that breaks another rule.
abbrev pub AreWholeDetails : (limit : ℕ) → (before : List Sentence)
    → (moves : List (Move (List ℕ))) → ProofRule → List Detail → Type 0
AreWholeDetails limit before moves P12 details =
    (pairs : List (Symbol × Symbol)) × AreLacking (IsWithin limit) before moves pairs
    × (details ≡ pairs_lacking pairs)
AreWholeDetails limit before moves rule details = details ≡ []

-- the token is a `(` or a `)`, which stand around the labels of a compressed proof
abbrev pub is_parenthesis : List ℕ → Bool
is_parenthesis text = bytes_eq text (codes "(") || bytes_eq text (codes ")")

-- the labels of the list of a compressed proof; none of a normal one
abbrev pub AreListed : (tokens listed : List (List ℕ)) → Type 0
AreListed tokens listed =
    ((letters : List (List ℕ)) × IsCompressed tokens listed letters)
    ⊎ (((labels letters : List (List ℕ)) → ¬ (IsCompressed tokens labels letters))
    × (listed ≡ []))

-- the labels of the labelled statements, in their order
abbrev pub labels_in : List Sentence → List (List ℕ)
labels_in statements = map (λ s. unwrap_or s.label []) (labelled_sentences statements)

-- These are the labels that are near to the token, of those that the proof may name instead: labels
-- of assertions and of active hypotheses. Those of its list are none of them.
abbrev pub AreNearLabels : (before : List Sentence) → (listed : List (List ℕ)) → (text : List ℕ)
    → (labels : List (List ℕ)) → Type 0
AreNearLabels before listed text labels =
    (usable : List (List ℕ)) × AreThose (λ index label. IsUsable before label) 0 (labels_in before) usable
    × AreNearest text listed usable labels

-- They are told, if there are such; of a parenthesis none.
abbrev pub AreNearDetails : (before : List Sentence) → (listed : List (List ℕ)) → (text : List ℕ)
    → List Detail → Type 0
AreNearDetails before listed text details =
    ((is_parenthesis text ≡ true) × (details ≡ []))
    ⊎ ((is_parenthesis text ≡ false) × (labels : List (List ℕ))
    × AreNearLabels before listed text labels
    × (details ≡ told_of labels (near_labels labels ∷ [])))

-- The facts of a token at which the rule over the whole of a proof is broken, whose list has these
-- labels. For P2 they tell of labels that the proof may name.
abbrev pub AreTokenDetails : (before : List Sentence) → (listed : List (List ℕ)) → ProofRule
    → (text : List ℕ) → List Detail → Type 0
AreTokenDetails before listed P2 text details =
    (near : List Detail) × AreNearDetails before listed text near
    × (details ≡ token_at_fault text ∷ near)
AreTokenDetails before listed P3 text details = details ≡ token_at_fault text ∷ []
AreTokenDetails before listed P4 text details = details ≡ token_at_fault text ∷ []
AreTokenDetails before listed P15 text details = details ≡ token_at_fault text ∷ []
AreTokenDetails before listed rule text details = details ≡ []

-- The facts that explain this fault of the tokens, which stand in the files, in order: those of the
-- token where a rule over the whole of the proof is broken; else those of the place where the moves
-- stop, where the steps that made the entries of the stack are told so, and then those of the whole.
abbrev pub AreDetails : List PlainFile → Profile → (before : List Sentence) → Sentence
    → (tokens : List PlainToken) → ProofRule → (step : ℕ) → List Detail → Type 0
AreDetails files profile before s tokens rule step details =
    ((step ≡ 0) × (token : ℕ) × (byte : ℕ) × (text : List ℕ)
    × IsWholePlace before s (judged_tokens (texts_of tokens)) rule token byte
    × (slice_get (texts_of tokens) token ≡ Some text)
    × (listed : List (List ℕ)) × AreListed (texts_of tokens) listed
    × AreTokenDetails before listed rule text details)
    ⊎ ((h : TokensHalt profile before s (texts_of tokens) (Some rule))
    × (step ≡ steps_in h.halts.earlier + 1)
    × (steps : List (List ℕ)) × AllZip (IsStepText files tokens h.moves) h.halts.origins steps
    × (there : List Detail) × (whole : List Detail)
    × AreHaltDetails (limit_of profile) before s h.halts.stack h.halts.kept steps h.halts.left rule
    there
    × AreWholeDetails (limit_of profile) before h.moves rule whole
    × (details ≡ there ++ whole))

-- The facts that tell what the known prefix of an incomplete proof, which breaks no rule, leaves on
-- the stack, and what is to be proved.
abbrev pub AreLeftOver : List PlainFile → Profile → (before : List Sentence) → Sentence
    → (tokens : List PlainToken) → List Detail → Type 0
AreLeftOver files profile before s tokens details =
    (h : TokensHalt profile before s (texts_of tokens) None)
    × (steps : List (List ℕ)) × AllZip (IsStepText files tokens h.moves) h.halts.origins steps
    × (details ≡ entries_given steps h.halts.stack
    ++ hypothesis_stated (unwrap_or s.label []) s.symbols ∷ [])

-- ---- text

-- the line of symbols, indented by four
abbrev pub expression_line : List Symbol → List ℕ
expression_line symbols = codes "   " ++ symbols_text symbols ++ codes "\n"

-- the symbol at an index, from 0 on
abbrev pub symbol_at : Expression → ℕ → List ℕ
symbol_at expression index = unwrap_or (slice_get expression index) (codes "nothing")

-- the line that tells where the given expression differs from the asked one
abbrev pub difference_line : (asked given : Expression) → Option ℕ → List ℕ
difference_line asked given None = []
difference_line asked given (Some index) =
    codes "  they differ at symbol " ++ decimal (index + 1) ++ codes ": " ++ symbol_at given index
    ++ codes " where " ++ symbol_at asked index ++ codes " is asked\n"

-- the lines of what is asked, of what a step gives instead, and of the difference
abbrev pub but_given_text : (asked : Expression) → (step : List ℕ) → (given : Expression) → List ℕ
but_given_text asked step given =
    expression_line asked ++ codes "  but step " ++ step ++ codes ", gives\n"
    ++ expression_line given ++ difference_line asked given (difference asked given)

-- the lines of what a hypothesis asks, and of what is given
abbrev pub asks_text : (label : List ℕ) → (asked : Expression) → (step : List ℕ)
    → (given : Expression) → Option ℕ → List ℕ
asks_text label asked step given None =
    codes "  " ++ label ++ codes " asks, and step " ++ step ++ codes ", gives\n"
    ++ expression_line asked
asks_text label asked step given (Some index) =
    codes "  " ++ label ++ codes " asks\n" ++ but_given_text asked step given

-- The number of a `Z`, from 1 on. That of a billionth or later one isn't told: numbers above
-- 4,294,967,295 are read as one.
abbrev pub mark_text : ℕ → List ℕ
mark_text wanted =
    if nat_lt wanted 1000000000 then decimal wanted else codes "1000000000 or a later one"

-- whether the expression is the variable alone
abbrev pub is_alone : Symbol → Expression → Bool
is_alone x (y ∷ []) = bytes_eq x y
is_alone x e = false

-- the lines of what replaces a variable
abbrev pub replacement_text : Symbol → Expression → List ℕ
replacement_text x e = x ++ codes " is\n" ++ expression_line e

-- those of it, unless it is the variable itself
abbrev pub unless_alone : Symbol → Expression → (same : Bool) → List ℕ
unless_alone x e true = codes "\n"
unless_alone x e false = codes ", where " ++ replacement_text x e

-- those of what replaces two variables, unless it is the variable itself
abbrev pub replacements_text : (x y : Symbol) → (e f : Expression) → (same other_same : Bool)
    → List ℕ
replacements_text x y e f true other_same = unless_alone y f other_same
replacements_text x y e f false true = codes ", where " ++ replacement_text x e
replacements_text x y e f false false =
    codes ", where " ++ replacement_text x e ++ codes "  and " ++ replacement_text y f

-- The lines of a fact, indented by two, and those of its expressions by four. Where a block begins
-- is told in a line of the form of the first one.
abbrev pub detail_text : Detail → List ℕ
detail_text (token_at_fault text) = codes "  token: " ++ text ++ codes "\n"
detail_text (missing_before what) = codes "  missing before it: " ++ what ++ codes "\n"
detail_text (near_labels labels) = codes "  near: " ++ joined labels ++ codes "\n"
detail_text (step_label label) = codes "  step: " ++ label ++ codes "\n"
detail_text (mark_asked wanted there) =
    codes "  it repeats Z number " ++ mark_text wanted ++ codes ", and there are " ++ decimal there
    ++ codes "\n"
detail_text (entry_counts needed there) =
    codes "  entries it takes: " ++ decimal needed ++ codes ", entries there are: "
    ++ decimal there ++ codes "\n"
detail_text (hypothesis_stated label stated) =
    codes "  " ++ label ++ codes " states\n" ++ expression_line stated
detail_text (entry_given step given) =
    codes "  step " ++ step ++ codes ", gives\n" ++ expression_line given
detail_text (type_asked label code step given) =
    codes "  " ++ label ++ codes " asks a " ++ code ++ codes "; step " ++ step
    ++ codes ", gives" ++ symbols_text given ++ codes "\n"
detail_text (types_taken taken given) =
    codes "  takes" ++ symbols_text taken ++ codes "; gets" ++ symbols_text given ++ codes "\n"
detail_text (hypothesis_asks label asked step given) =
    asks_text label asked step given (difference asked given)
detail_text (pair_asked x y e f) =
    codes "  it asks $d " ++ x ++ codes " " ++ y ++ codes " $."
    ++ replacements_text x y e f (is_alone x e) (is_alone y f)
detail_text (shared_by_both variables) =
    codes "  both have:" ++ symbols_text variables ++ codes "\n"
detail_text (step_lacks x y) =
    codes "  this step lacks: $d " ++ x ++ codes " " ++ y ++ codes " $.\n"
detail_text (missing_pair x y) =
    codes "  the whole proof lacks: $d " ++ x ++ codes " " ++ y ++ codes " $.\n"
detail_text (end_given expression step given) =
    codes "  it states\n" ++ but_given_text expression step given
detail_text (most_symbols symbols) =
    codes "  an expression may have " ++ decimal symbols ++ codes " symbols\n"
detail_text (begun_at place) = codes "  begun: " ++ place ++ codes "\n"
detail_text (last_closed_at place) = codes "  the last block is closed: " ++ place ++ codes "\n"
detail_text (block_opened place source) =
    place ++ codes ": the block is opened here, and not closed\n" ++ source
detail_text (declared_at place) = codes "  declared: " ++ place ++ codes "\n"
detail_text (repeated_at place) = codes "  before: " ++ place ++ codes "\n"
detail_text (labelled_at place) = codes "  labelled: " ++ place ++ codes "\n"
detail_text (typed_at place) = codes "  typed: " ++ place ++ codes "\n"
detail_text (stated_at place) = codes "  stated: " ++ place ++ codes "\n"
detail_text (block_ended_at place) = codes "  its block ends: " ++ place ++ codes "\n"
detail_text its_hypotheses = codes "  the theorem's hypotheses\n"
detail_text (hypothesis_at place label) =
    codes "    " ++ place ++ codes " " ++ label ++ codes "\n"
detail_text (stated_later_at place) = codes "  stated further down: " ++ place ++ codes "\n"

-- the text of facts
abbrev pub details_text : List Detail → List ℕ
details_text details = flat_map detail_text details
