-- Where the moves of a proof stop, and the lines of the steps before.
use Rattle.std.proofs.Common.{◌≡◌, ℕ, ◌+◌, List, [], ◌∷◌, ◌++◌, length, take, Bool, true, false}
use Rattle.std.proofs.Common.{Option, Some, None, inl, inr, refl, sym, ap, subst, ◌∙◌, append-nil}
use Rattle.mm_base.specs.Statement.{plain_statement}
use Rattle.mm_text.specs.Files.{PlainFile}
use Rattle.mm_frame.specs.Sentence.{Sentence, sentence_of}
use Rattle.mm_step.specs.declared.fault.ProofRule.{ProofRule}
use Rattle.mm_listing.specs.declared.halt.Halt.{Halt}
use Rattle.mm_step.specs.declared.profile.Profile.{Profile}
use Rattle.mm_step.specs.declared.profile.Profile.TheVariants.{Lenient}
use Rattle.mm_listing.specs.Halted.{HaltsProof, StopsWith}
use Rattle.mm_proof.specs.CheckedPrefix.{Pass}
use Rattle.mm_base.specs.Token.{PlainToken}
use Rattle.mm_code.specs.Words.{texts_of}
use Rattle.mm_verdict.specs.declared.question.Telling.{Telling}
use Rattle.mm_step.specs.Moves.{Move, steps_in}
use Rattle.mm_proof.specs.Parsed.{OfProof, SaySteps}
use Rattle.mm_step.specs.Profiles.{limit_of}
use Rattle.mm_step.specs.Proof.{IsWithin, Passed}
use Rattle.mm_proof.specs.Proof.{IsMoveFault, IsMovesFault, Prove}
use Rattle.mm_proof.specs.ReadSteps.{ReadSteps}
use Rattle.mm_step.specs.Steps.{IsProofNumber}
use Rattle.mm_step.specs.Substitution.{Expression}
use Rattle.mm_proof.specs.Tokens.{is_incomplete, SayMoves}
use Rattle.mm_proof.specs.Verified.{OfMoves}
use Rattle.mm_proof.proofs.ProofVerdicts.PassedMoves.{prove_at_end}
use Rattle.mm_facts.proofs.StepPlaces.{first_are}
use Rattle.mm_check.specs.Alone.{AreStepsBefore}
use Rattle.mm_check.specs.Told.{IsTextOfMoves, TellsMoves}
use Rattle.mm_facts.specs.Explained.{judged_tokens}
use Rattle.mm_facts.specs.Explained.{IsTokensFault}
use Rattle.mm_explain.specs.declared.read_to.Reached.{Reached}
use Rattle.mm_explain.specs.Mirror.Reached.{AreTried, HasReached, tried_as}
use Rattle.mm_explain.proofs.LoneProofs.LoneTheorems.{reached_number}
use Rattle.mm_explain.proofs.LoneProofs.TriedTokens.{judged_where, moves_fault, moves_tried, SayJudged}

-- ---- why no more moves pass

module _ (before : List Sentence) (s : Sentence) (moves earlier : List (Move (List ℕ)))
    (stack kept : List Expression) where
  abbrev Fits : List (List ℕ) → Type 0
  Fits = IsWithin (limit_of Lenient)

  -- all passed
  all_passed : moves ≡ earlier ++ [] → Passed Fits before earlier stack kept
      → Passed Fits before moves stack kept
  all_passed parts passed =
      subst (λ (ms : List (Move (List ℕ))). Passed Fits before ms stack kept)
      (sym (parts ∙ append-nil earlier)) passed

  stops_at : (left : List (Move (List ℕ))) → moves ≡ earlier ++ left
      → Passed Fits before earlier stack kept → (b : Bool) (rule : ProofRule)
      → StopsWith Fits before s b stack kept left (Some rule)
      → (b ≡ false → IsMovesFault Fits before s moves rule (steps_in earlier + 1))
      × (b ≡ true → IsMoveFault Fits before moves rule (steps_in earlier + 1))
  stops_at [] parts passed b rule stops = (
    (λ whole. inr (record {
      stack = stack;
      kept = kept;
      passed = all_passed parts passed;
      number = ap (λ (ms : List (Move (List ℕ))). steps_in ms + 1)
          (sym (parts ∙ append-nil earlier));
      broken = stops.1;
    })),
    λ prefix. absurd (let whole = stops.0 in cc),
  )
  stops_at (move ∷ more) parts passed b rule stops =
      let fault : IsMoveFault Fits before moves rule (steps_in earlier + 1) = record {
        earlier = earlier;
        move = move;
        later = more;
        parts = parts;
        number = refl;
        stack = stack;
        kept = kept;
        passed = passed;
        fault = stops;
      } in
      ((λ whole. inl fault), λ prefix. fault)

  stops_well : (left : List (Move (List ℕ))) → moves ≡ earlier ++ left
      → Passed Fits before earlier stack kept → (b : Bool)
      → StopsWith Fits before s b stack kept left None
      → (moves ≡ earlier) × (b ≡ false → Prove Fits before s moves)
      × (b ≡ true → Pass Fits before moves)
  stops_well [] parts passed b (inl prefix) = (
    parts ∙ append-nil earlier,
    (λ whole. absurd cc),
    λ yes. (stack, kept, all_passed parts passed),
  )
  stops_well [] parts passed b (inr same) = (
    parts ∙ append-nil earlier,
    (λ whole. prove_at_end Fits before s moves kept
        (subst (λ (es : List Expression). Passed Fits before moves es kept) same
        (all_passed parts passed))),
    λ prefix. (stack, kept, all_passed parts passed),
  )
  stops_well (move ∷ more) parts passed b stops = absurd stops

-- ---- the lines before

module _ (st : List Sentence) (index : ℕ) (s : Sentence) (tokens : List (List ℕ))
    (moves : List (Move (List ℕ))) (b : Bool) (halt : Halt) (open_one : is_incomplete tokens ≡ b)
    (said : SayJudged (take index st) s (judged_where b tokens) moves)
    (halted : HaltsProof (limit_of Lenient) st (take index st) s b moves halt) where
  abbrev before : List Sentence
  before = take index st

  pub halt_fault : (rule : ProofRule) → halt.rule ≡ Some rule
      → IsTokensFault Lenient before s tokens rule (halt.steps + 1)
  halt_fault rule is =
      let there = halted.there in
      let stops = subst
      (λ (o : Option ProofRule). StopsWith (IsWithin (limit_of Lenient)) before s b there.stack
      there.kept there.left o)
      is there.stops in
      let fault =
      stops_at before s moves there.earlier there.stack there.kept there.left there.parts
      there.passed b rule stops in
      rw halted.steps (moves_fault before s tokens moves b open_one said rule
      (steps_in there.earlier + 1) fault.0 fault.1)

  -- the moves before are those that the tokens say before the step
  pub halt_before : SayMoves before s (judged_tokens tokens)
      (halted.there.earlier ++ halted.there.left)
      × (halt.steps + 1 ≡ steps_in halted.there.earlier + 1)
  halt_before = (
    subst (λ (ms : List (Move (List ℕ))). SayMoves before s (judged_tokens tokens) ms)
        halted.there.parts
        (subst (λ (c : Bool). SayMoves before s (judged_where c tokens) moves) (sym open_one)
        said.1),
    ap (λ (n : ℕ). n + 1) halted.steps,
  )

  -- all passed
  passed_well : halt.rule ≡ None → (moves ≡ halted.there.earlier)
      × (b ≡ false → Prove (IsWithin (limit_of Lenient)) before s moves)
      × (b ≡ true → Pass (IsWithin (limit_of Lenient)) before moves)
  passed_well none =
      let there = halted.there in
      stops_well before s moves there.earlier there.stack there.kept there.left there.parts
      there.passed b
      (subst
      (λ (o : Option ProofRule). StopsWith (IsWithin (limit_of Lenient)) before s b there.stack
      there.kept there.left o)
      none there.stops)

  pub halt_tried : halt.rule ≡ None → AreTried before s tokens (tried_as b)
  halt_tried none =
      let well = passed_well none in
      moves_tried before s tokens moves b open_one said well.1 well.2

  pub halt_all : halt.rule ≡ None → SayMoves before s (judged_where b tokens) halted.there.earlier
  halt_all none =
      subst (SayMoves before s (judged_where b tokens)) (passed_well none).0 said.1

-- ---- of the `$p` with a number

module _ (st : List Sentence) (id : ℕ) (tokens : List (List ℕ)) (steps : ReadSteps) (halt : Halt)
    (said : OfProof st id (λ index s. SaySteps st index s (judged_tokens tokens) steps.moves))
    (prefix : steps.prefix ≡ is_incomplete tokens) (profile : steps.profile ≡ Lenient)
    (halted : OfMoves st id steps.moves (λ index s moves.
    HaltsProof (limit_of steps.profile) st (take index st) s steps.prefix moves halt)) where
  judged : (index : ℕ) (s : Sentence) (number : IsProofNumber st id index s)
      → SayJudged (take index st) s (judged_where steps.prefix tokens) (said index s number).1
  judged index s number =
      let told = said index s number in
      subst (λ (b : Bool). SayJudged (take index st) s (judged_where b tokens) told.1) (sym prefix)
      (told.0, told.2)

  there : (index : ℕ) (s : Sentence) (number : IsProofNumber st id index s)
      → HaltsProof (limit_of Lenient) st (take index st) s steps.prefix (said index s number).1 halt
  there index s number =
      let told = said index s number in
      subst (λ (p : Profile). HaltsProof (limit_of p) st (take index st) s steps.prefix told.1 halt)
      profile (halted index s told.1 number told.3)

  pub known_fault : (rule : ProofRule) → halt.rule ≡ Some rule
      → OfProof st id (λ index s.
      IsTokensFault Lenient (take index st) s tokens rule (halt.steps + 1))
  known_fault rule is index s number =
      halt_fault st index s tokens (said index s number).1 steps.prefix halt (sym prefix)
      (judged index s number) (there index s number) rule is

  pub known_tried : halt.rule ≡ None → (b : Bool) → steps.prefix ≡ b
      → OfProof st id (λ index s. AreTried (take index st) s tokens (tried_as b))
  known_tried none b is index s number =
      subst (λ (c : Bool). AreTried (take index st) s tokens (tried_as c)) is
      (halt_tried st index s tokens (said index s number).1 steps.prefix halt (sym prefix)
      (judged index s number) (there index s number) none)

  -- what is told of the moves before the place
  module _ (P : List Sentence → List (Move (List ℕ)) → Type 0)
      (told : OfMoves st id steps.moves (λ index s moves.
      P (take index st) (take halt.passed moves))) where
    told_there : (index : ℕ) (s : Sentence) (number : IsProofNumber st id index s)
        → P (take index st) (there index s number).there.earlier
    told_there index s number =
        let own = said index s number in
        let h = there index s number in
        subst (P (take index st))
        (first_are (limit_of Lenient) st (take index st) s steps.prefix own.1 halt h)
        (told index s own.1 number own.3)

    -- it is told of those that the tokens say before the step
    pub known_before : OfProof st id (λ index s.
        (moves : List (Move (List ℕ))) × (left : List (Move (List ℕ)))
        × SayMoves (take index st) s (judged_tokens tokens) (moves ++ left)
        × (halt.steps + 1 ≡ steps_in moves + 1) × P (take index st) moves)
    known_before index s number =
        let h = (there index s number).there in
        let are = halt_before st index s tokens (said index s number).1 steps.prefix halt
        (sym prefix) (judged index s number) (there index s number) in
        (h.earlier, h.left, are.0, are.1, told_there index s number)

    -- where all moves pass, of all that the tokens say
    pub known_all : halt.rule ≡ None → (b : Bool) → steps.prefix ≡ b
        → OfProof st id (λ index s. (moves : List (Move (List ℕ)))
        × SayMoves (take index st) s (judged_where b tokens) moves × P (take index st) moves)
    known_all none b is index s number = (
      (there index s number).there.earlier,
      subst (λ (c : Bool). SayMoves (take index st) s (judged_where c tokens)
          (there index s number).there.earlier) is
          (halt_all st index s tokens (said index s number).1 steps.prefix halt (sym prefix)
          (judged index s number) (there index s number) none),
      told_there index s number,
    )

  module _ (telling : Telling) (files : List PlainFile) (placed : List PlainToken)
      (texts : tokens ≡ texts_of placed) (text : List ℕ)
      (told : OfMoves st id steps.moves (λ index s moves.
      IsTextOfMoves telling files (take index st) placed (take halt.passed moves) text)) where
    abbrev TextOf : List Sentence → List (Move (List ℕ)) → Type 0
    TextOf before moves = IsTextOfMoves telling files before placed moves text

    pub known_shown : OfProof st id (λ index s.
        AreStepsBefore telling files (take index st) s placed (halt.steps + 1) text)
    known_shown index s number =
        let of = known_before TextOf told index s number in
        inr (
          of.0,
          of.1,
          subst (λ (ts : List (List ℕ)).
              SayMoves (take index st) s (judged_tokens ts) (of.0 ++ of.1)) texts of.2,
          of.3,
          of.4,
        )

    pub known_listed : halt.rule ≡ None → (b : Bool) → steps.prefix ≡ b
        → OfProof st id (λ index s.
        TellsMoves telling files (take index st) s placed (judged_where b tokens) text)
    known_listed none b is index s number = known_all TextOf told none b is index s number

-- ---- the theorem that was reached

-- it is the `$p` with the number
pub reached_proof : (files : List PlainFile) (r : Reached)
    → (label : List ℕ) × HasReached files label r
    → (index : ℕ) × (s : Sentence) × IsProofNumber r.book.statements r.id.0 index s
reached_proof files r (label, h) =
    (length h.before, sentence_of (plain_statement r.statement), reached_number files label r h)
