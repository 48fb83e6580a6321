-- Where the moves that tokens say stop: at their first fault, or at none.
use Rattle.std.proofs.Common.{◌≡◌, ◌≢◌, ℕ, ◌+◌, List, [], ◌∷◌, ◌++◌, take, Bool, true, false, Option, Some, None}
use Rattle.std.proofs.Common.{refl, ap, sym, subst, ◌∙◌, append-nil, inl, inr}
use Rattle.std.specs.Prelude.{if◌then◌else◌}
use Rattle.std.specs.Global.{Vec}
use Rattle.mm_code.specs.Layout.{texts}
use Rattle.mm_frame.specs.Sentence.{Sentence}
use Rattle.mm_frame.specs.Rules.{AllMeant}
use Rattle.mm_frame.specs.Form.{AllFormed}
use Rattle.mm_step.specs.declared.fault.ProofRule.{ProofRule}
use Rattle.mm_step.specs.declared.profile.Profile.{Profile}
use Rattle.mm_step.specs.Substitution.{Expression}
use Rattle.mm_step.specs.Moves.{Move, steps_in}
use Rattle.mm_proof.specs.Tokens.{is_incomplete, SayMoves}
use Rattle.mm_step.specs.Proof.{IsWithin, Passed}
use Rattle.mm_proof.specs.Proof.{IsWhole, Prove, IsMoveFault, IsMovesFault}
use Rattle.mm_proof.specs.CheckedPrefix.{checked_prefix, Pass}
use Rattle.mm_step.specs.Profiles.{limit_of}
use Rattle.mm_proof.specs.Strict.{HasFormOf, IsTextFault}
use Rattle.mm_proof.specs.UnderProfile.{IsPrefixAllowedUnder}
use Rattle.mm_listing.specs.Halted.{Halts, StopsWith}
use Rattle.mm_proof.proofs.ProofVerdicts.PassedMoves.{prove_at_end, proof_passed}
use Rattle.mm_proof.proofs.ProofVerdicts.ProfileVerdicts.{one_verdict_under_holds, one_prefix_verdict_under_holds}
use Rattle.mm_listing.specs.declared.halt.Halt.{Halt}
use Rattle.mm_listing.specs.Halted.{HaltsProof}
use Rattle.mm_proof.specs.ReadSteps.{ReadSteps}
use Rattle.mm_step.specs.Steps.{IsProofNumber}
use Rattle.mm_proof.specs.Verified.{OfMoves}
use Rattle.mm_facts.specs.Explained.{IsTokensFault, judged_tokens, TokensHalt, AreListed}
use Rattle.mm_facts.specs.Mirror.Explaining.{AreJudgedSteps, Causes, IsCauseOf, IsHaltOf}
use Rattle.mm_facts.specs.Mirror.Explaining.{StopsIn}
use Rattle.mm_facts.specs.declared.details.Cause.{Cause}
use Rattle.mm_facts.specs.declared.named_halt.NamedHalt.{NamedHalt}
use Rattle.mm_facts.specs.declared.details.Cause.TheVariants as cause
use Rattle.mm_frame.proofs.Rules.ObeyedRules.{allformed_prefix, allmeant_prefix}
use Rattle.std.proofs.Common.{Bor, ◌≤◌, length, slice_get, arith}
use Rattle.mm_proof.specs.Parsed.{OfProof}
use Rattle.mm_places.specs.WholePlaces.{IsWholePlace}

-- ---- moves

-- They stop by a rule, which is that of their first fault; or by none, and they pass.
pub data HaltVerdict (Fits : Expression → Type 0) (before : List Sentence) (s : Sentence) (prefix : Bool)
    (moves : List (Move (List ℕ))) (rule : Option ProofRule) (step : ℕ) : Type 0 where
  fails : (broken : ProofRule) → rule ≡ Some broken → IsMovesFault Fits before s moves broken step
      → (prefix ≡ true → IsMoveFault Fits before moves broken step)
      → HaltVerdict Fits before s prefix moves rule step
  passes : rule ≡ None → prefix ≡ true → Pass Fits before moves → HaltVerdict Fits before s prefix moves rule step
  proves : rule ≡ None → Prove Fits before s moves → HaltVerdict Fits before s prefix moves rule step

pub halt_verdict : (Fits : Expression → Type 0) (before : List Sentence) (s : Sentence) (prefix : Bool)
    (moves : List (Move (List ℕ))) (rule : Option ProofRule) (h : Halts Fits before s prefix moves rule)
    → HaltVerdict Fits before s prefix moves rule (steps_in h.earlier + 1)
halt_verdict Fits before s prefix moves rule h = go h.left h.parts rule h.stops
  where
    go : (left : List (Move (List ℕ))) → moves ≡ h.earlier ++ left → (o : Option ProofRule)
        → StopsWith Fits before s prefix h.stack h.kept left o
        → HaltVerdict Fits before s prefix moves o (steps_in h.earlier + 1)
    go [] parts (Some r) stops =
        let whole : moves ≡ h.earlier = parts ∙ append-nil h.earlier in
        fails r refl (inr (record {
          stack = h.stack;
          kept = h.kept;
          passed = subst (λ (ms : List (Move (List ℕ))). Passed Fits before ms h.stack h.kept) (sym whole) h.passed;
          number = ap (λ (ms : List (Move (List ℕ))). steps_in ms + 1) (sym whole);
          broken = stops.1;
        })) (λ is. let other : prefix ≡ false = stops.0 in cc)
    go [] parts None (inl is) =
        let whole : moves ≡ h.earlier = parts ∙ append-nil h.earlier in
        passes refl is (h.stack, h.kept, subst (λ (ms : List (Move (List ℕ))). Passed Fits before ms h.stack h.kept) (sym whole) h.passed)
    go [] parts None (inr one) =
        let whole : moves ≡ h.earlier = parts ∙ append-nil h.earlier in
        proves refl (prove_at_end Fits before s moves h.kept
        (subst (λ (es : List Expression). Passed Fits before moves es h.kept) one
        (subst (λ (ms : List (Move (List ℕ))). Passed Fits before ms h.stack h.kept) (sym whole) h.passed)))
    go (move ∷ more) parts (Some r) stops =
        let fault : IsMoveFault Fits before moves r (steps_in h.earlier + 1) = record {
          earlier = h.earlier;
          move = move;
          later = more;
          parts = parts;
          number = refl;
          stack = h.stack;
          kept = h.kept;
          passed = h.passed;
          fault = stops;
        } in
        fails r refl (inl fault) (λ is. fault)
    go (move ∷ more) parts None stops = absurd stops

-- ---- tokens

pub judged_complete : (tokens : List (List ℕ)) → is_incomplete tokens ≡ false → judged_tokens tokens ≡ tokens
judged_complete tokens e = ap (λ (b : Bool). if b then checked_prefix tokens else tokens) e

pub judged_known : (tokens : List (List ℕ)) → is_incomplete tokens ≡ true → judged_tokens tokens ≡ checked_prefix tokens
judged_known tokens e = ap (λ (b : Bool). if b then checked_prefix tokens else tokens) e

-- tokens with the form of the profile that break no rule over all of them have no fault of all
pub no_whole_fault : (profile : Profile) (before : List Sentence) (s : Sentence) (tokens : List (List ℕ))
    (rule : ProofRule) → IsWhole before tokens → HasFormOf profile before s tokens
    → IsTextFault profile before s tokens rule → ⊥
no_whole_fault profile before s tokens rule whole form (inl fault) = whole rule fault.broken
no_whole_fault profile before s tokens rule whole form (inr wrong) = wrong.2 form

-- so the judged ones have none, whether the tokens are complete or not
pub no_text_fault : (profile : Profile) (before : List Sentence) (s : Sentence) (tokens : List (List ℕ))
    (rule : ProofRule) → IsWhole before (judged_tokens tokens) → HasFormOf profile before s (judged_tokens tokens)
    → (¬ (is_incomplete tokens ≡ true) → IsTextFault profile before s tokens rule)
    → (is_incomplete tokens ≡ true → IsTextFault profile before s (checked_prefix tokens) rule) → ⊥
no_text_fault profile before s tokens rule whole form complete incomplete = go (is_incomplete tokens) refl
  where
    go : (b : Bool) → is_incomplete tokens ≡ b → ⊥
    go true e =
        let same = judged_known tokens e in
        no_whole_fault profile before s (checked_prefix tokens) rule (subst (IsWhole before) same whole)
        (subst (HasFormOf profile before s) same form) (incomplete e)
    go false e =
        let same = judged_complete tokens e in
        no_whole_fault profile before s tokens rule (subst (IsWhole before) same whole)
        (subst (HasFormOf profile before s) same form) (complete (λ other. let e' = e in cc))

-- a fault of a step or of the end is one of tokens that break no rule over all of them
pub whole_before : (profile : Profile) (before : List Sentence) (s : Sentence) (tokens : List (List ℕ))
    (rule : ProofRule) (step : ℕ) → IsTokensFault profile before s tokens rule step → step ≢ 0
    → IsWhole before (judged_tokens tokens) × HasFormOf profile before s (judged_tokens tokens)
whole_before profile before s tokens rule step (inl (c, inl f)) later = absurd (later f.0)
whole_before profile before s tokens rule step (inl (c, inr f)) later =
    subst (λ (t : List (List ℕ)). IsWhole before t × HasFormOf profile before s t) (sym (judged_complete tokens c)) (f.0, f.1)
whole_before profile before s tokens rule step (inr (c, inl f)) later = absurd (later f.0)
whole_before profile before s tokens rule step (inr (c, inr f)) later =
    subst (λ (t : List (List ℕ)). IsWhole before t × HasFormOf profile before s t) (sym (judged_known tokens c)) (f.0, f.1)

-- the moves of the judged tokens stop by the rule of the first fault, and at its step
pub halt_is_fault : (profile : Profile) (before : List Sentence) (s : Sentence) (tokens : List (List ℕ))
    (rule : ProofRule) (step : ℕ) → AllMeant before → AllFormed before
    → IsTokensFault profile before s tokens rule step
    → IsWhole before (judged_tokens tokens) → HasFormOf profile before s (judged_tokens tokens)
    → (moves : List (Move (List ℕ))) → SayMoves before s (judged_tokens tokens) moves
    → (prefix : Bool) → prefix ≡ is_incomplete tokens → (o : Option ProofRule) (at : ℕ)
    → HaltVerdict (IsWithin (limit_of profile)) before s prefix moves o at
    → (o ≡ Some rule) × (step ≡ at)
halt_is_fault profile before s tokens rule step all formed (inl (c, fault)) whole form moves said prefix p o at verdict =
    let law = one_verdict_under_holds profile before s tokens all formed in
    let same = judged_complete tokens c in
    let w = subst (IsWhole before) same whole in
    let f = subst (HasFormOf profile before s) same form in
    let m = subst (λ (t : List (List ℕ)). SayMoves before s t moves) same said in
    elim verdict [
      | fails r is found known ↦
          let one = law.2 r rule at step (inr (w, f, moves, m, found)) fault in (is ∙ ap Some one.0, sym one.1)
      | passes none is pass ↦ (let other : prefix ≡ false = p ∙ c in cc)
      | proves none proof ↦ absurd (law.1 (f, record { whole = w; moves = moves; said = m; proves = proof }) rule step fault)
    ]
halt_is_fault profile before s tokens rule step all formed (inr (c, fault)) whole form moves said prefix p o at verdict =
    let law = one_prefix_verdict_under_holds profile before s tokens all formed in
    let same = judged_known tokens c in
    let w = subst (IsWhole before) same whole in
    let f = subst (HasFormOf profile before s) same form in
    let m = subst (λ (t : List (List ℕ)). SayMoves before s t moves) same said in
    elim verdict [
      | fails r is found known ↦
          let one = law.2 r rule at step (inr (w, f, moves, m, known (p ∙ c))) fault in (is ∙ ap Some one.0, sym one.1)
      | passes none is pass ↦
          absurd (law.1 (f, record { whole = w; moves = moves; said = m; pass = pass }) rule step fault)
      | proves none proof ↦
          let passed = proof_passed (IsWithin (limit_of profile)) before s moves all proof in
          absurd (law.1 (f, record { whole = w; moves = moves; said = m; pass = (s.symbols ∷ [], passed.0, passed.1) }) rule step fault)
    ]

-- a known prefix that is allowed breaks no rule over the whole of it
pub allowed_whole : (profile : Profile) (before : List Sentence) (s : Sentence) (tokens : List (List ℕ))
    → is_incomplete tokens ≡ true → IsPrefixAllowedUnder profile before s tokens
    → IsWhole before (judged_tokens tokens) × HasFormOf profile before s (judged_tokens tokens)
allowed_whole profile before s tokens c allowed =
    subst (λ (t : List (List ℕ)). IsWhole before t × HasFormOf profile before s t) (sym (judged_known tokens c))
    (allowed.1.whole, allowed.0)

-- of a known prefix that breaks no rule they stop by none
pub halt_is_none : (profile : Profile) (before : List Sentence) (s : Sentence) (tokens : List (List ℕ))
    → AllMeant before → AllFormed before → is_incomplete tokens ≡ true
    → IsPrefixAllowedUnder profile before s tokens
    → IsWhole before (judged_tokens tokens) → HasFormOf profile before s (judged_tokens tokens)
    → (moves : List (Move (List ℕ))) → SayMoves before s (judged_tokens tokens) moves
    → (prefix : Bool) → prefix ≡ is_incomplete tokens → (o : Option ProofRule) (at : ℕ)
    → HaltVerdict (IsWithin (limit_of profile)) before s prefix moves o at → o ≡ None
halt_is_none profile before s tokens all formed c allowed whole form moves said prefix p o at verdict =
    let law = one_prefix_verdict_under_holds profile before s tokens all formed in
    let same = judged_known tokens c in
    let w = subst (IsWhole before) same whole in
    let f = subst (HasFormOf profile before s) same form in
    let m = subst (λ (t : List (List ℕ)). SayMoves before s t moves) same said in
    elim verdict [
      | fails r is found known ↦ absurd (law.1 allowed r at (inr (w, f, moves, m, known (p ∙ c))))
      | passes none is pass ↦ none
      | proves none proof ↦ none
    ]

-- the same place, told by another prefix and rule that equal its own
abbrev pub halts_as : (Fits : Expression → Type 0) (before : List Sentence) (s : Sentence) (p q : Bool)
    (moves : List (Move (List ℕ))) (o r : Option ProofRule) → p ≡ q → o ≡ r
    → Halts Fits before s p moves o → Halts Fits before s q moves r
halts_as Fits before s p q moves o r same_prefix same_rule h = record {
  earlier = h.earlier;
  left = h.left;
  parts = h.parts;
  stack = h.stack;
  kept = h.kept;
  passed = h.passed;
  origins = h.origins;
  made = h.made;
  stops = subst (λ (b : Bool). StopsWith Fits before s b h.stack h.kept h.left r) same_prefix
      (subst (λ (b : Option ProofRule). StopsWith Fits before s p h.stack h.kept h.left b) same_rule h.stops);
}

-- ---- the place where the judged tokens stop

pub record FoundHalt (profile : Profile) (st before : List Sentence) (s : Sentence)
    (tokens : List (List ℕ)) (halt : Halt) : Type 0 where
  pub moves : List (Move (List ℕ))
  pub said : SayMoves before s (judged_tokens tokens) moves
  pub whole : IsWhole before (judged_tokens tokens)
  pub form : HasFormOf profile before s (judged_tokens tokens)
  pub halts : HaltsProof (limit_of profile) st before s (is_incomplete tokens) moves halt

abbrev pub found_halt : (profile : Profile) (st : List Sentence) (id : ℕ) (tokens : List (List ℕ))
    (steps : ReadSteps) (halt : Halt) → AreJudgedSteps profile st id tokens steps
    → OfMoves st id steps.moves
    (λ index s moves. HaltsProof (limit_of steps.profile) st (take index st) s steps.prefix moves halt)
    → (index : ℕ) (s : Sentence) → IsProofNumber st id index s
    → FoundHalt profile st (take index st) s tokens halt
found_halt profile st id tokens steps halt judged halted index s proof =
    let said = judged.said index s proof in
    record {
      moves = said.1;
      said = said.2;
      whole = said.0;
      form = judged.form index s proof;
      halts = subst (λ (b : Bool). HaltsProof (limit_of profile) st (take index st) s b said.1 halt) judged.prefix
          (subst (λ (p : Profile). HaltsProof (limit_of p) st (take index st) s steps.prefix said.1 halt) judged.under
          (halted index s said.1 proof said.3));
    }

-- it is that of the first fault
pub found_fault : (profile : Profile) (st before : List Sentence) (s : Sentence) (tokens : List (List ℕ))
    (halt : Halt) (rule : ProofRule) (step : ℕ) → AllMeant before → AllFormed before
    → IsTokensFault profile before s tokens rule step
    → (f : FoundHalt profile st before s tokens halt)
    → (halt.rule ≡ Some rule) × (step ≡ steps_in f.halts.there.earlier + 1)
found_fault profile st before s tokens halt rule step all formed fault f =
    halt_is_fault profile before s tokens rule step all formed fault f.whole f.form f.moves f.said (is_incomplete tokens) refl halt.rule
    (steps_in f.halts.there.earlier + 1)
    (halt_verdict (IsWithin (limit_of profile)) before s (is_incomplete tokens) f.moves halt.rule f.halts.there)

-- or of none
pub found_none : (profile : Profile) (st before : List Sentence) (s : Sentence) (tokens : List (List ℕ))
    (halt : Halt) → AllMeant before → AllFormed before → is_incomplete tokens ≡ true
    → IsPrefixAllowedUnder profile before s tokens → FoundHalt profile st before s tokens halt
    → halt.rule ≡ None
found_none profile st before s tokens halt all formed incomplete allowed f =
    halt_is_none profile before s tokens all formed incomplete allowed f.whole f.form f.moves f.said (is_incomplete tokens) refl halt.rule
    (steps_in f.halts.there.earlier + 1)
    (halt_verdict (IsWithin (limit_of profile)) before s (is_incomplete tokens) f.moves halt.rule f.halts.there)

-- the moves of the tokens stop there
abbrev pub tokens_halt : (profile : Profile) (st before : List Sentence) (s : Sentence) (tokens : List (List ℕ))
    (halt : Halt) (rule : Option ProofRule) → halt.rule ≡ rule
    → FoundHalt profile st before s tokens halt → TokensHalt profile before s tokens rule
tokens_halt profile st before s tokens halt rule is f = record {
  moves = f.moves;
  said = f.said;
  halts = halts_as (IsWithin (limit_of profile)) before s (is_incomplete tokens) (is_incomplete tokens) f.moves halt.rule rule refl is f.halts.there;
}

-- ---- the cause of a fault

-- a byte of a token: it is at no step
pub token_caused : {profile : Profile} {st : List Sentence} {id : ℕ} {tokens : List (List ℕ)}
    {rule : ProofRule} {step : ℕ} {it : Cause} {token byte : ℕ} {text : Bor (List ℕ)}
    {listed : Vec (Bor (List ℕ))}
    → it ≡ cause.Token token byte text listed → IsCauseOf profile st id tokens rule step it
    → (step ≡ 0) × OfProof st id
    (λ index s. IsWholePlace (take index st) s (judged_tokens tokens) rule token byte)
    × (slice_get tokens token ≡ Some text.now) × (byte ≤ length text.now)
    × AreListed tokens (texts listed.items)
token_caused {profile} {st} {id} {tokens} {rule} {step} {it} is r =
    subst (Causes profile st id tokens rule step) is r.causes

-- what is said of the judged tokens, whether they are all or those of the known prefix
pub of_judged : (tokens : List (List ℕ)) (P : List (List ℕ) → Type 0)
    → (¬ (is_incomplete tokens ≡ true) → P tokens)
    → (is_incomplete tokens ≡ true → P (checked_prefix tokens)) → P (judged_tokens tokens)
of_judged tokens P whole known = go (is_incomplete tokens) refl
  where
    go : (b : Bool) → is_incomplete tokens ≡ b → P (judged_tokens tokens)
    go true e = subst P (sym (judged_known tokens e)) (known e)
    go false e =
        subst P (sym (judged_complete tokens e)) (whole (λ other. let e' = e in cc))

-- a fault at no step is one of all the tokens that are judged
no_step : (Fits : Expression → Type 0) (before : List Sentence) (s : Sentence)
    (moves : List (Move (List ℕ))) (rule : ProofRule) (step : ℕ)
    → IsMovesFault Fits before s moves rule step → step ≡ 0 → ⊥
no_step Fits before s moves rule step (inl fault) none = omega (arith, fault.number, none)
no_step Fits before s moves rule step (inr fault) none = omega (arith, fault.number, none)

pub text_fault : (profile : Profile) (before : List Sentence) (s : Sentence)
    (tokens : List (List ℕ)) (rule : ProofRule) (step : ℕ)
    → IsTokensFault profile before s tokens rule step → step ≡ 0
    → ¬ (is_incomplete tokens ≡ true) → IsTextFault profile before s tokens rule
text_fault profile before s tokens rule step (inl (c, inl fault)) none whole = fault.1
text_fault profile before s tokens rule step (inl (c, inr fault)) none whole =
    absurd (no_step (IsWithin (limit_of profile)) before s fault.2 rule step fault.4 none)
text_fault profile before s tokens rule step (inr (c, fault)) none whole = absurd (whole c)

pub known_text_fault : (profile : Profile) (before : List Sentence) (s : Sentence)
    (tokens : List (List ℕ)) (rule : ProofRule) (step : ℕ)
    → IsTokensFault profile before s tokens rule step → step ≡ 0
    → is_incomplete tokens ≡ true → IsTextFault profile before s (checked_prefix tokens) rule
known_text_fault profile before s tokens rule step (inl (c, fault)) none known =
    absurd (let e = c in let e' = known in cc)
known_text_fault profile before s tokens rule step (inr (c, inl fault)) none known = fault.1
known_text_fault profile before s tokens rule step (inr (c, inr fault)) none known =
    absurd (no_step (IsWithin (limit_of profile)) before s fault.2 rule step (inl fault.4) none)

-- the moves of the judged tokens
module _ {profile : Profile} {st : List Sentence} {id : ℕ} {tokens : List (List ℕ)}
    {rule : ProofRule} {step : ℕ} {it : Cause} {steps : ReadSteps} {stop : NamedHalt}
    (is : it ≡ cause.Moves steps stop) (r : IsCauseOf profile st id tokens rule step it) where
  pub moves_caused : (step ≢ 0) × AreJudgedSteps profile st id tokens steps
      × OfMoves st id steps.moves (λ index s moves. HaltsProof (limit_of steps.profile) st
      (take index st) s steps.prefix moves stop.halt)
  moves_caused = subst (Causes profile st id tokens rule step) is r.causes

  module _ (index : ℕ) (s : Sentence) (proof : IsProofNumber st id index s) where
    -- they stop there
    abbrev pub halt_caused : FoundHalt profile st (take index st) s tokens stop.halt
    halt_caused =
        found_halt profile st id tokens steps stop.halt moves_caused.1 moves_caused.2 index s proof

    -- by the rule of the fault, and at its step
    pub fault_caused : (stop.halt.rule ≡ Some rule)
        × (step ≡ steps_in halt_caused.halts.there.earlier + 1)
    fault_caused =
        found_fault profile st (take index st) s tokens stop.halt rule step
        (allmeant_prefix st index r.sound.0) (allformed_prefix st index r.sound.1)
        (r.fault index s proof) halt_caused

    pub is_halt_of : IsHaltOf (limit_of profile) st id stop.halt
    is_halt_of = record {
      index = index;
      s = s;
      proof = proof;
      prefix = is_incomplete tokens;
      moves = halt_caused.moves;
      halts = halt_caused.halts;
    }

    pub stops_in : StopsIn tokens stop.halt
    stops_in = (
      limit_of profile,
      st,
      take index st,
      s,
      is_incomplete tokens,
      halt_caused.moves,
      halt_caused.said,
      halt_caused.halts,
    )
