-- What the limit on expressions changes of the verdict on a proof.
use Rattle.std.proofs.Common.{◌≡◌, ℕ, ◌+◌, List, [], ◌∷◌, ◌++◌, ◌⊎◌, inl, inr, ⊎_elim, refl, sym}
use Rattle.std.proofs.Common.{subst, ◌∙◌, append_assoc, append-nil}
use Rattle.mm_base.proofs.Lists.{zip_left}
use Rattle.mm_frame.specs.Sentence.{Sentence}
use Rattle.mm_frame.specs.Rules.{AllMeant}
use Rattle.mm_step.specs.declared.fault.ProofRule.TheVariants.{L1}
use Rattle.mm_step.specs.Tree.{Trees, none, tree, DeriveAll, AnyExpression}
use Rattle.mm_step.specs.Moves.{Move, name, again, mark, steps_in, Makes}
use Rattle.mm_step.specs.Proof.{IsWithin, FirstAtMove, Passed}
use Rattle.mm_proof.specs.Proof.{Prove, IsProvedWithin, IsProved}
use Rattle.mm_proof.specs.Proof.{IsMovesFault, IsFault}
use Rattle.mm_proof.specs.Laws.{LimitsAside}
use Rattle.mm_proof.proofs.ProofVerdicts.PassedMoves.{passed_none, passed_again}
use Rattle.mm_step.proofs.ProofSteps.PassedStep.{passed_name}
use Rattle.mm_proof.proofs.ProofVerdicts.PassedMoves.{passed_mark, prove_at_end, Went, went_on}
use Rattle.mm_proof.proofs.ProofVerdicts.PassedMoves.{went_step, nothing_left, passed_once}
use Rattle.mm_proof.proofs.ProofVerdicts.PassedMoves.{proof_passed}
use Rattle.mm_step.proofs.ProofSteps.FirstAtStep.{limit_first}
use Rattle.mm_proof.proofs.ProofVerdicts.FirstFault.{last_entry, within_dec}
use Rattle.mm_proof.proofs.ProofVerdicts.FirstFault.{proof_excludes, tokens_exclude, AreGood}
use Rattle.mm_proof.proofs.ProofVerdicts.FirstFault.{Exclude}
use Rattle.mm_step.specs.declared.profile.Profile.TheVariants.{Lenient}
use Rattle.mm_proof.specs.UnderProfile.{HaveFirstFault}
use Rattle.mm_step.specs.declared.fault.ProofRule.{ProofRule}

-- what trees derive where expressions fit they derive where more of them do
derive_looser : (Fits More : List (List ℕ) → Type 0) → ((e : List (List ℕ)) → Fits e → More e)
    → (before : List Sentence) (trees : Trees) (es : List (List (List ℕ)))
    → DeriveAll Fits before trees es → DeriveAll More before trees es
derive_looser Fits More more before none es d = d
derive_looser Fits More more before (tree label below right) es d = (
  d.0,
  d.1,
  d.2,
  more d.0 d.3,
  ⊎_elim (λ leaf. inl leaf) (λ n. inr (
    n.0,
    n.1,
    n.2,
    n.3,
    n.4,
    n.5,
    derive_looser Fits More more before below _ n.6,
    n.7,
    n.8,
  )) d.4,
  derive_looser Fits More more before right d.1 d.5,
)

-- and they derive them without a limit
pub derive_any : (Fits : List (List ℕ) → Type 0) (before : List Sentence) (trees : Trees) (es : List (List (List ℕ))) → DeriveAll Fits before trees es → DeriveAll AnyExpression before trees es
derive_any Fits before trees es d =
    derive_looser Fits AnyExpression (λ e fits. tt) before trees es d

pub prove_looser : (Fits More : List (List ℕ) → Type 0) → ((e : List (List ℕ)) → Fits e → More e)
    → (before : List Sentence) (s : Sentence) (moves : List (Move (List ℕ)))
    → Prove Fits before s moves → Prove More before s moves
prove_looser Fits More more before s moves p = record {
  label = p.label;
  below = p.below;
  kept = p.kept;
  made = p.made;
  derived = derive_looser Fits More more before (tree p.label p.below none) (s.symbols ∷ [])
      p.derived;
}

-- ---- the first step over the limit

module _ (Fits : List (List ℕ) → Type 0) (each : (e : List (List ℕ)) → Dec (Fits e))
    (before : List Sentence) where
  -- a move of moves that pass without a limit passes within it, or passes it
  went_or_over : (earlier : List (Move (List ℕ))) (stack kept : List (List (List ℕ)))
      (move : Move (List ℕ)) → AllMeant before → Went AnyExpression before stack kept move
      → Passed Fits before earlier stack kept
      → ((stack' : List (List (List ℕ))) × (kept' : List (List (List ℕ))) × Passed Fits before (earlier ++ move ∷ []) stack' kept') ⊎ FirstAtMove Fits L1 before stack kept move
  went_or_over earlier stack kept (name label) all w passed =
      let s = went_step AnyExpression before stack kept label all w in
      elim (each s.1) [
        | yes fits ↦ inl (s.0 ++ s.1 ∷ [], kept, passed_name Fits before earlier stack kept label s.0 s.1 all passed s.2 fits)
        | no over ↦ let f = limit_first Fits before stack label s.0 s.1 all over s.2 in inr (record { broken = f.0; first = f.1 })
      ]
  went_or_over earlier stack kept (again tag) all w passed =
      let e = zip_left (λ t f. DeriveAll AnyExpression before t (f ∷ [])) w.shelf kept tag w.made.0 w.kept_derived w.made.1 in
      inl (stack ++ e.0 ∷ [], kept, passed_again Fits before earlier stack kept tag e.0 passed e.1)
  went_or_over earlier stack kept mark all w passed = ⊎_elim
      (λ bare. absurd (nothing_left AnyExpression before w.made.0 w.made.1 w.made.2
      (subst (λ x. DeriveAll AnyExpression before x []) w.made.3 (subst (DeriveAll AnyExpression before w.row) bare w.derived))))
      (λ l. inl (l.0 ++ l.1 ∷ [], kept ++ l.1 ∷ [], passed_mark Fits before earlier l.0 kept l.1 (subst (λ s. Passed Fits before earlier s kept) l.2 passed))) (last_entry stack)

  within_or_over : (s : Sentence) (moves later earlier : List (Move (List ℕ)))
      (stack kept last end : List (List (List ℕ))) → AllMeant before
      → Passed AnyExpression before moves last end → moves ≡ earlier ++ later
      → Passed Fits before earlier stack kept
      → ((kept' : List (List (List ℕ))) × Passed Fits before moves last kept') ⊎ ((step : ℕ) × IsMovesFault Fits before s moves L1 step)
  within_or_over s moves [] earlier stack kept last end all whole parts passed =
      let here : Passed Fits before moves stack kept = subst (λ l. Passed Fits before l stack kept) (sym (parts ∙ append-nil earlier)) passed in
      let same = passed_once Fits AnyExpression before moves stack last kept end all here whole in
      inl (kept, subst (λ l. Passed Fits before moves l kept) same.0 here)
  within_or_over s moves (move ∷ later) earlier stack kept last end all whole parts passed =
      let w = went_on AnyExpression Fits before earlier move later whole.trees whole.shelf stack kept all
      (subst (λ l. Makes before l none [] whole.trees whole.shelf) parts whole.made)
      (record { stack = last; kept = end; derived = whole.derived; kept_derived = whole.kept_derived }) passed in
      ⊎_elim
      (λ o. within_or_over s moves later (earlier ++ move ∷ []) o.0 o.1 last end all whole (parts ∙ sym (append_assoc earlier (move ∷ []) later)) o.2)
      (λ f. inr (
        steps_in earlier + 1,
        inl (record { earlier = earlier; move = move; later = later; parts = parts; number = refl; stack = stack; kept = kept; passed = passed; fault = f }),
      ))
      (went_or_over earlier stack kept move all w passed)

  -- moves that prove a statement without a limit do within it, or a step of theirs is the first over it
  prove_or_over : (s : Sentence) (moves : List (Move (List ℕ))) → AllMeant before
      → Prove AnyExpression before s moves
      → Prove Fits before s moves ⊎ ((step : ℕ) × IsMovesFault Fits before s moves L1 step)
  prove_or_over s moves all p =
      let whole = proof_passed AnyExpression before s moves all p in
      ⊎_elim (λ w. inl (prove_at_end Fits before s moves w.0 w.1)) (λ o. inr o)
      (within_or_over s moves moves [] [] [] (s.symbols ∷ []) whole.0 all whole.1 refl (passed_none Fits before))

-- ---- the law

proved_or_over : (limit : ℕ) (before : List Sentence) (s : Sentence) (tokens : List (List ℕ)) → AllMeant before → IsProved before s tokens
    → IsProvedWithin (IsWithin limit) before s tokens ⊎ ((step : ℕ) × IsFault (IsWithin limit) before s tokens L1 step)
proved_or_over limit before s tokens all p = ⊎_elim
    (λ w. inl (record { whole = p.whole; moves = p.moves; said = p.said; proves = w }))
    (λ o. inr (o.0, inr (p.whole, p.moves, p.said, o.1)))
    (prove_or_over (IsWithin limit) (within_dec limit) before s p.moves all p.proves)

-- the fault of tokens, as the profile that demands no form tells it
as_lenient : (limit : ℕ) (before : List Sentence) (s : Sentence) (tokens : List (List ℕ))
    (rule : ProofRule) (step : ℕ) → IsFault (IsWithin limit) before s tokens rule step
    → HaveFirstFault (IsMovesFault (IsWithin limit) before s) Lenient before s tokens rule step
as_lenient limit before s tokens rule step (inl (zero, whole)) = inl (zero, inl whole)
as_lenient limit before s tokens rule step (inr (whole, moves, said, f)) =
    inr (whole, tt, moves, said, f)

pub limits_aside_holds : LimitsAside
limits_aside_holds limit before s tokens all = (
  λ p. record { whole = p.whole; moves = p.moves; said = p.said; proves = prove_looser (IsWithin limit) AnyExpression (λ e fits. tt) before s p.moves p.proves },
  proved_or_over limit before s tokens all,
  λ p rule step f. ⊎_elim
      (λ w. absurd (apart.0 (w.whole, tt, w.moves, w.said, w.proves) rule step
      (as_lenient limit before s tokens rule step f)))
      (λ over. (apart.1 rule L1 step over.0 (as_lenient limit before s tokens rule step f)
      (as_lenient limit before s tokens L1 over.0 over.1)).0)
      (proved_or_over limit before s tokens all p),
)
  where
    apart : Exclude
        (AreGood (Prove (IsWithin limit) before s) (IsMovesFault (IsWithin limit) before s) Lenient
        before s tokens)
        (HaveFirstFault (IsMovesFault (IsWithin limit) before s) Lenient before s tokens)
    apart = tokens_exclude (Prove (IsWithin limit) before s)
        (IsMovesFault (IsWithin limit) before s) Lenient before s tokens
        (λ moves. proof_excludes (IsWithin limit) before s moves all)
