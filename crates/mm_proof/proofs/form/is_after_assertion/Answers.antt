use Rattle.std.proofs.Common.{◌≡◌, ◌-◌, slice_get, Some, sym, ap, ◌∙◌, arith}
use Rattle.std.proofs.lemmas.Bool.{false≢true, ltb-false}
use Rattle.std.proofs.lemmas.Bool.Decides.{Decides-ltb}
use Rattle.std.proofs.lemmas.Option.{none-some, slice_get_past}
use Rattle.std.proofs.lemmas.List.{length-map}
use Rattle.mm_base.proofs.Lists.{all_at}
use Rattle.mm_frame.specs.declared.number.LabelId.{LabelId}
use Rattle.mm_step.specs.Moves.{name}
use Rattle.mm_step.specs.Plain.{ids_in}
use Rattle.mm_proof.specs.Mirror.CodeSteps.{code_move, moves_of}
use Rattle.mm_step.specs.Mirror.CodeRun.{MayBeMade}
use Rattle.mm_proof.proofs.ProofTokens.ProofCodes.{code_there, entry_moves}
use Rattle.mm_proof.proofs.ProofVerdicts.StrictForm.{code_before}
use Rattle.mm_step.proofs.ByNumbers.CalledAssertions.{entry_at}
use Rattle.mm_proof.proofs.form.is_after_assertion.Goals as goal
use Rattle.mm_proof.proofs.form.is_after_assertion.Goals.{In-Some}

-- the code before names the entry
here : (c : In-Some) → slice_get (moves_of c.args.entries.now c.args.codes.now) (c.args.index - 1) ≡ Some (name c.in-Some.id.now.0)
here c =
    let less = (Decides-ltb (c.in-Number.number - 1) _).0 (sym c.in-Some.ensures.lookup.0) in
    code_there (ids_in c.args.entries.now) c.args.codes.now (c.args.index - 1) _ (omega (arith, c.requires.within, c.if-index-eq0.false))
    ∙ ap (λ k. Some (code_move (ids_in c.args.entries.now) k)) c.in-Number.is
    ∙ ap Some (entry_moves (ids_in c.args.entries.now) (c.in-Number.number - 1) c.in-Some.id.now.0
    (entry_at c.args.entries.now (c.in-Number.number - 1) c.in-Some.id.now less ∙ ap (λ (k : LabelId). Some k.0) (sym c.in-Some.ensures.lookup.1)))

pub is_assertion-requires : goal.is_assertion-requires
is_assertion-requires c =
    let usable = c.requires.usable in
    let made = all_at (MayBeMade c.args.book.now.statements usable.0) _ (c.args.index - 1) _ usable.1 (here (goal.at.is_assertion-requires c).In-Some) in
    record { used = (usable.0, made.0, made.1) }

pub returns-in-Some : goal.returns-in-Some
returns-in-Some c =
    let there = here (goal.at.returns-in-Some c).In-Some in (
      (λ is. (c.args.index - 1, c.in-Some.id.now.0, omega (arith, c.if-index-eq0.false), there, c.is_assertion.ensures.0 is)),
      λ h.
          let at : h.0 ≡ c.args.index - 1 = omega (arith, h.2) in
          let same : h.1 ≡ c.in-Some.id.now.0 = cc (h.3, there) in
          c.is_assertion.ensures.1 (rw same at h.4),
    )

pub returns-in-None : goal.returns-in-None
returns-in-None c = (
  (λ f. absurd (false≢true f)),
  λ h.
      let past = ltb-false (c.in-Number.number - 1) _ (sym c.in-None.ensures.lookup.0) in
      let named = code_before (ids_in c.args.entries.now) c.args.codes.now c.args.index h.0 _ _ h.1 h.2 c.requires.within c.in-Number.is h.3 in
      let e : named.0 ≡ c.in-Number.number = cc (named.1) in
      absurd (none-some h.1 (sym (slice_get_past (ids_in c.args.entries.now) (c.in-Number.number - 1) (omega (arith, past, length-map c.args.entries.now (λ i. i.0)))) ∙ rw e at named.2)),
)

pub returns-in-Tag : goal.returns-in-Tag
returns-in-Tag c = (
  (λ f. absurd (false≢true f)),
  λ h.
      let named = code_before (ids_in c.args.entries.now) c.args.codes.now c.args.index h.0 _ _ h.1 h.2 c.requires.within c.in-Tag.is h.3 in
      absurd (let e = named.1 in cc),
)
