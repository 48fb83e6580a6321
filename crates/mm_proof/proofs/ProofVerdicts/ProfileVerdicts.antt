-- Each proof and each known prefix has one verdict under a profile, and what the strict one adds.
use Rattle.std.proofs.Common.{◌≡◌, ℕ, List, take, inl, inr, refl, sym, ◌∙◌, arith, ◌+◌, [], ◌∷◌}
use Rattle.std.proofs.Common.{◌++◌, length, slice_get, Contains, Some, ap, subst, ◌⊎◌}
use Rattle.mm_proof.proofs.ProofTokens.SaidMoves.{compressed_once, some_moves, moves_once}
use Rattle.mm_proof.proofs.ProofTokens.SaidMoves.{whole_dec, moves_usable}
use Rattle.mm_frame.specs.Sentence.{Sentence, SomeSentence, IsLabelled, IsAssertion}
use Rattle.mm_frame.specs.Rules.{AllMeant}
use Rattle.mm_step.specs.declared.fault.ProofRule.{ProofRule}
use Rattle.mm_step.specs.declared.profile.Profile.{Profile}
use Rattle.mm_step.specs.Proof.{IsWithin}
use Rattle.mm_proof.specs.Proof.{IsProvedWithin, IsWhole, Prove, IsMovesFault}
use Rattle.mm_proof.specs.Proof.{IsMoveFault, BreaksWhole}
use Rattle.mm_step.specs.Profiles.{limit_of}
use Rattle.mm_proof.specs.CheckedPrefix.{checked_prefix, Pass}
use Rattle.mm_proof.specs.Strict.{HasFormOf, IsStrictList, MarkAssertions, IsStrict}
use Rattle.mm_proof.specs.UnderProfile.{IsProvedUnder, IsFaultUnder, HaveFaultUnder}
use Rattle.mm_proof.specs.UnderProfile.{OneVerdictUnder, OnePrefixVerdictUnder}
use Rattle.mm_proof.specs.UnderProfile.{HaveFirstFault, AreAllowedUnder}
use Rattle.mm_proof.proofs.ProofVerdicts.FirstFault.{first_symbol_dec, proof_excludes}
use Rattle.mm_proof.proofs.ProofVerdicts.FirstFault.{pass_excludes, tokens_exclude, AreGood}
use Rattle.mm_proof.proofs.ProofVerdicts.FirstFault.{first_or_none, MovesVerdict, moves_verdict}
use Rattle.mm_proof.proofs.ProofVerdicts.FirstFault.{within_dec, Exclude}
use Rattle.mm_step.specs.declared.fault.ProofRule.TheVariants.{P15}
use Rattle.mm_step.specs.declared.profile.Profile.TheVariants.{Strict, Lenient}
use Rattle.mm_proof.proofs.ProofVerdicts.VerdictLaws.{prove_looser}
use Rattle.std.proofs.lemmas.Option.{same_Some}
use Rattle.std.specs.List.{AllZip, AllByRecursion}
use Rattle.std.proofs.Math.Decide.{ℕ_discrete}
use Rattle.mm_frame.specs.Frame.{AreMandatory}
use Rattle.mm_frame.specs.Form.{AllFormed}
use Rattle.mm_base.specs.declared.statement.Kind.TheVariants.{Axiom, Provable}
use Rattle.mm_base.proofs.Lists.{get_before, get_parted, zip_left, zip_right, get_from_take}
use Rattle.mm_base.proofs.Lists.{at_from_contains, contains_from_at}
use Rattle.mm_frame.proofs.Rules.DecidedStatements.{dec_both, dec_as, dec_some, kind_dec}
use Rattle.mm_frame.proofs.Rules.DecidedStatements.{contains_dec, dec_not, dec_or}
use Rattle.mm_frame.proofs.Frames.FrameLaws.{mandatory_unique}
use Rattle.mm_step.specs.Moves.{Move, name, mark}
use Rattle.mm_proof.specs.Tokens.{SayMoves}
use Rattle.mm_proof.proofs.ProofVerdicts.StrictForm.{last_of, told_each, once_from, step_before}
use Rattle.mm_proof.proofs.ProofVerdicts.StrictForm.{strict_normal}
use Rattle.mm_step.specs.Substitution.{Expression}
use Rattle.mm_step.specs.Steps.{IsUsableMove}
use Rattle.mm_proof.proofs.ProofVerdicts.PassedMoves.{proof_passed}

-- ==== the verdict under a profile is one

module _ (profile : Profile) (before : List Sentence) (s : Sentence) (tokens : List (List ℕ))
    (all : AllMeant before) where
  abbrev Limited : Expression → Type 0
  Limited = IsWithin (limit_of profile)

  -- a whole proof
  pub proved_excludes : Exclude (IsProvedUnder profile before s tokens)
      (IsFaultUnder profile before s tokens)
  proved_excludes =
      let apart = tokens_exclude (Prove Limited before s) (IsMovesFault Limited before s) profile
      before s tokens (λ moves. proof_excludes Limited before s moves all) in
      (λ p. apart.0 (p.1.whole, p.0, p.1.moves, p.1.said, p.1.proves), apart.1)

  -- a prefix of one
  pub allowed_excludes : Exclude (AreAllowedUnder profile before s tokens)
      (HaveFaultUnder profile before s tokens)
  allowed_excludes =
      let apart = tokens_exclude (Pass Limited before) (IsMoveFault Limited before) profile before s
      tokens (λ moves. pass_excludes Limited before moves all) in
      (λ p. apart.0 (p.1.whole, p.0, p.1.moves, p.1.said, p.1.pass), apart.1)

-- ==== a proof within the smaller limit is one within the greater, so that under the strict profile
-- nothing but its form is at fault

module _ (before : List Sentence) (s : Sentence) (tokens : List (List ℕ)) where
  -- a proof in the lenient profile is one within the limit of the strict one
  pub within_strict : IsProvedUnder Lenient before s tokens
      → IsProvedWithin (IsWithin (limit_of Strict)) before s tokens
  within_strict p = record {
    whole = p.1.whole;
    moves = p.1.moves;
    said = p.1.said;
    proves = prove_looser (IsWithin (limit_of Lenient)) (IsWithin (limit_of Strict))
        (λ e less. omega (arith, less)) before s p.1.moves p.1.proves;
  }

  -- what is at fault with it under the strict profile is its form
  pub only_form : (rule : ProofRule) (step : ℕ) → AllMeant before
      → IsProvedUnder Lenient before s tokens → IsFaultUnder Strict before s tokens rule step
      → rule ≡ P15
  only_form rule step all p (inl (zero_step, inl fault)) =
      absurd (p.1.whole rule fault.broken)
  only_form rule step all p (inl (zero_step, inr fault)) = fault.1
  only_form rule step all p (inr (whole, form, moves, said, fault)) =
      absurd ((proved_excludes Strict before s tokens all).0 (form, within_strict p) rule step
      (inr (whole, form, moves, said, fault)))

-- ==== whether a proof has the form that a profile demands can be decided, so each proof and each
-- known prefix has one verdict under a profile

-- ---- the list

-- a label stands there twice
abbrev Twice : List (List ℕ) → Type 0
Twice labels = (i : ℕ) × (l : List ℕ) × (slice_get labels i ≡ Some l) × Contains (take i labels) l

-- one of them is among the others
abbrev Shared : List (List ℕ) → List (List ℕ) → Type 0
Shared given labels = (i : ℕ) × (l : List ℕ) × (slice_get given i ≡ Some l) × Contains labels l

not_twice_from : (before : List Sentence) (s : Sentence) (labels : List (List ℕ)) → IsStrictList before s labels → ¬ (Twice labels)
not_twice_from before s labels strict (i, l, at, has) =
    let k = at_from_contains (take i labels) l has in
    let f = get_from_take labels i k.0 l k.1 in
    absurd (omega (arith, f.0, strict.once k.0 i l f.1 at))

module _ (before : List Sentence) (s : Sentence) (hs : List Sentence) (given labels : List (List ℕ))
    (mandatory : AreMandatory before s hs) (labelled : AllZip (λ h l. IsLabelled l h) hs given)
  where
    list_from : ¬ (Twice labels) → ¬ (Shared given labels) → IsStrictList before s labels
    list_from not_twice not_shared = record {
      once = once_from labels (λ i l at has. not_twice (i, l, at, has));
      optional = λ hypotheses h label those has named among.
          let same = mandatory_unique before s hypotheses hs those mandatory in
          let at = at_from_contains hs h (subst (λ (l : List Sentence). Contains l h) same has) in
          let l = zip_left (λ h l. IsLabelled l h) hs given at.0 h labelled at.1 in
          not_shared (at.0, label, l.1 ∙ ap Some (same_Some l.0 label (sym l.2 ∙ named)), among);
    }

    not_shared_from : IsStrictList before s labels → ¬ (Shared given labels)
    not_shared_from strict (i, l, at, has) =
        let h = zip_right (λ h l. IsLabelled l h) hs given i l labelled at in
        strict.optional hs h.0 l mandatory (contains_from_at hs h.0 (i, h.1)) h.2 has

    list_dec : Dec (IsStrictList before s labels)
    list_dec = dec_as (λ h. list_from h.0 h.1)
        (λ strict. (not_twice_from before s labels strict, not_shared_from strict))
        (dec_both
        (dec_not (dec_some _ (λ i l. contains_dec (take i labels) l) labels))
        (dec_not (dec_some _ (λ i l. contains_dec labels l) given)))

-- ---- the marks

abbrev OfAssertion : List Sentence → List ℕ → Type 0
OfAssertion before label = SomeSentence before (λ a. IsLabelled label a × IsAssertion a.kind)

abbrev ByAssertion : List Sentence → Move (List ℕ) → Type 0
ByAssertion before (name label) = OfAssertion before label
ByAssertion before move = ⊥

by_dec : (before : List Sentence) (move : Move (List ℕ)) → Dec (ByAssertion before move)
by_dec before (name label) = dec_some (λ i a. IsLabelled label a × IsAssertion a.kind)
    (λ i a. dec_both (first_symbol_dec a.label (Some label)) (dec_or (kind_dec a.kind Axiom) (kind_dec a.kind Provable))) before
by_dec before move = no (λ h. h)

mark_dec : (move : Move (List ℕ)) → Dec (move ≡ mark)
mark_dec mark = yes refl
mark_dec move = no (λ e. absurd cc)

module _ (before : List Sentence) (moves : List (Move (List ℕ))) where
  -- the move before an index is a step by an assertion
  abbrev After : ℕ → Type 0
  After k = (b : ℕ) × (m : Move (List ℕ)) × (slice_get moves b ≡ Some m) × ((k ≡ b + 1) × ByAssertion before m)

  abbrev Loose : Type 0
  Loose = (k : ℕ) × (m : Move (List ℕ)) × (slice_get moves k ≡ Some m) × ((m ≡ mark) × ¬ (After k))

  after_dec : (k : ℕ) → Dec (After k)
  after_dec k = dec_some (λ b m. (k ≡ b + 1) × ByAssertion before m) (λ b m. dec_both (ℕ_discrete k (b + 1)) (by_dec before m)) moves

after_prefix : (before : List Sentence) (prefix : List (Move (List ℕ))) (b : ℕ) (m : Move (List ℕ)) → slice_get prefix b ≡ Some m → length prefix ≡ b + 1 → ByAssertion before m
    → (earlier : List (Move (List ℕ))) × (label : List ℕ) × (prefix ≡ earlier ++ name label ∷ []) × OfAssertion before label
after_prefix before prefix b (name label) at long by = let last = last_of prefix b (name label) long at in (last.0, label, last.1, by)
after_prefix before prefix b m at long by = absurd by

module _ (before : List Sentence) (moves : List (Move (List ℕ))) where
  marks_from : ¬ (Loose before moves) → MarkAssertions before moves
  marks_from tight prefix after parts = elim (after_dec before moves (length prefix)) [
    | yes a ↦ after_prefix before prefix a.0 a.1 (get_before prefix (mark ∷ after) a.0 a.1 (omega (arith, a.3.0)) (ap (λ l. slice_get l a.0) (sym parts) ∙ a.2)) a.3.0 a.3.1
    | no none ↦ absurd (tight (length prefix, mark, ap (λ l. slice_get l (length prefix)) parts ∙ get_parted prefix after mark, (refl, none)))
  ]

  marks_dec : Dec (MarkAssertions before moves)
  marks_dec = dec_as (marks_from) (λ strict. λ (k, move, at, same).
      let m = step_before before moves k strict (at ∙ ap Some same.0) in
      same.1 (m.0, name m.1, m.3, (m.2, m.4))) (dec_not
      (dec_some _ (λ k m. dec_both (mark_dec m) (dec_not (after_dec before moves k))) moves))

-- ---- the form

strict_dec : (before : List Sentence) (s : Sentence) (tokens : List (List ℕ)) (moves : List (Move (List ℕ))) → SayMoves before s tokens moves → Dec (IsStrict before s tokens)
strict_dec before s tokens moves (inl n) = yes (strict_normal before s tokens n.0)
strict_dec before s tokens moves (inr c) = dec_as
    (λ h. record {
      listed = λ labels letters d. subst (IsStrictList before s) (compressed_once tokens c.listed labels c.letters letters c.parts d).0 h.0;
      marked = λ others d. subst (MarkAssertions before) (moves_once before s tokens moves others (inr c) (inr d)) h.1;
    })
    (λ strict. (strict.listed c.listed c.letters c.parts, strict.marked moves c))
    (dec_both (list_dec before s c.hypotheses c.labels c.listed c.mandatory
    (told_each (λ h. h.label) c.hypotheses c.labels c.labelled)) (marks_dec before moves))

-- of tokens that break no rule over the whole of them
form_dec : (profile : Profile) (before : List Sentence) (s : Sentence) (tokens : List (List ℕ)) → AllFormed before → IsWhole before tokens → Dec (HasFormOf profile before s tokens)
form_dec Strict before s tokens formed whole = let said = some_moves before s tokens formed whole in strict_dec before s tokens said.0 said.1
form_dec Lenient before s tokens formed whole = yes tt

-- tokens are good, or have a fault, where the moves that they say are, or have one
tokens_verdict : (Good : List (Move (List ℕ)) → Type 0)
    (Faults : List (Move (List ℕ)) → ProofRule → ℕ → Type 0) (profile : Profile)
    (before : List Sentence) (s : Sentence) (tokens : List (List ℕ)) → AllFormed before
    → ((moves : List (Move (List ℕ))) → AllByRecursion (IsUsableMove before) moves
    → Good moves ⊎ ((rule : ProofRule) × (step : ℕ) × Faults moves rule step))
    → AreGood Good Faults profile before s tokens
    ⊎ ((rule : ProofRule) × (step : ℕ)
    × HaveFirstFault Faults profile before s tokens rule step)
tokens_verdict Good Faults profile before s tokens formed each =
    elim (first_or_none (λ rule. BreaksWhole rule before tokens) (whole_dec before tokens)) [
      | inl f ↦ inr (f.rule, 0, inl (refl, inl (record { broken = f.broken; first = f.first })))
      | inr whole ↦
          let (moves, said) = some_moves before s tokens formed whole in
          elim (form_dec profile before s tokens formed whole) [
            | no none ↦ inr (P15, 0, inl (refl, inr (whole, refl, none)))
            | yes form ↦
                elim (each moves (moves_usable before s tokens moves formed whole said)) [
                  | inl good ↦ inl (whole, form, moves, said, good)
                  | inr (rule, step, f) ↦ inr (rule, step, inr (whole, form, moves, said, f))
                ]
          ]
    ]

-- that all moves of a prefix passed is said by what is proved, and by what ends wrongly
passed_or_stopped : (Fits : Expression → Type 0) (before : List Sentence) (s : Sentence)
    (moves : List (Move (List ℕ))) → AllMeant before → MovesVerdict Fits before s moves
    → Pass Fits before moves
    ⊎ ((rule : ProofRule) × (step : ℕ) × IsMoveFault Fits before moves rule step)
passed_or_stopped Fits before s moves all (inl p) =
    let passed = proof_passed Fits before s moves all p in inl (s.symbols ∷ [], passed.0, passed.1)
passed_or_stopped Fits before s moves all (inr (rule, step, inl f)) = inr (rule, step, f)
passed_or_stopped Fits before s moves all (inr (rule, step, inr e)) =
    inl (e.stack, e.kept, e.passed)

pub one_verdict_under_holds : OneVerdictUnder
one_verdict_under_holds profile before s tokens all formed = (
  elim (tokens_verdict (Prove (IsWithin (limit_of profile)) before s)
      (IsMovesFault (IsWithin (limit_of profile)) before s) profile before s tokens formed
      (λ moves. moves_verdict (IsWithin (limit_of profile)) (within_dec (limit_of profile)) before s
      moves all)) [
        | inl (whole, form, moves, said, proof) ↦
            inl (form, record { whole = whole; moves = moves; said = said; proves = proof })
        | inr fault ↦ inr fault
      ],
  (proved_excludes profile before s tokens all).0,
  (proved_excludes profile before s tokens all).1,
)

pub one_prefix_verdict_under_holds : OnePrefixVerdictUnder
one_prefix_verdict_under_holds profile before s tokens all formed = (
  elim (tokens_verdict (Pass (IsWithin (limit_of profile)) before)
      (IsMoveFault (IsWithin (limit_of profile)) before) profile before s (checked_prefix tokens)
      formed (λ moves usable. passed_or_stopped (IsWithin (limit_of profile)) before s moves all
      (moves_verdict (IsWithin (limit_of profile)) (within_dec (limit_of profile)) before s moves
      all usable))) [
        | inl (whole, form, moves, said, pass) ↦
            inl (form, record { whole = whole; moves = moves; said = said; pass = pass })
        | inr fault ↦ inr fault
      ],
  (allowed_excludes profile before s (checked_prefix tokens) all).0,
  (allowed_excludes profile before s (checked_prefix tokens) all).1,
)
