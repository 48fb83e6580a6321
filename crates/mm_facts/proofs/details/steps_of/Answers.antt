-- The judged tokens say the steps, and break no rule over all of them.
use Rattle.std.proofs.Common.{◌≡◌, ◌⊎◌, false, Ok, Err, List, ℕ, take, ap, sym, subst, ◌∙◌, inl, inr}
use Rattle.std.proofs.Common.{refl}
use Rattle.std.proofs.lemmas.Bool.{false_from_ne_true}
use Rattle.mm_step.specs.Plain.{token_texts}
use Rattle.mm_proof.specs.Tokens.{is_incomplete}
use Rattle.mm_proof.specs.Parsed.{SaySteps}
use Rattle.mm_proof.specs.ReadSteps.{ReadSteps}
use Rattle.mm_proof.specs.Strict.{HasFormOf}
use Rattle.mm_proof.specs.declared.moves.Parsed.{Parsed}
use Rattle.mm_proof.specs.declared.moves.Parsed.TheVariants as parsed
use Rattle.mm_facts.proofs.TokenHalts.{no_text_fault, judged_complete, judged_known}
use Rattle.mm_facts.proofs.details.steps_of.Goals as goal

pub unreachable-requires : goal.unreachable-requires
unreachable-requires c =
    let tokens = token_texts c.args.tokens.now in
    let p = c.requires.proof in
    let is = c.in-Err-Rule.is ∙ ap Err c.in-Err-Rule.field-0-is in
    let whole = c.requires.whole p.0 p.1 p.2 in
    no_text_fault c.args.profile (take p.0 c.args.book.now.statements) p.1 tokens c.in-Err-Rule.field-0-0 whole.0 whole.1
    (λ complete. (c.parse.ensures.fault complete c.in-Err-Rule.field-0-0 c.in-Err-Rule.field-0-1 is p.0 p.1 p.2).1)
    (λ incomplete. (c.parse.ensures.known_fault incomplete c.in-Err-Rule.field-0-0 c.in-Err-Rule.field-0-1 is p.0 p.1 p.2).1)

-- a proof is whole, or has a known prefix
either : (p : Parsed) → ((steps : ReadSteps) × (p ≡ parsed.Steps steps))
    ⊎ ((steps : ReadSteps) × (p ≡ parsed.Incomplete steps))
either (parsed.Steps steps) = inl (steps, refl)
either (parsed.Incomplete steps) = inr (steps, refl)

pub returns-in-Ok : goal.returns-in-Ok
returns-in-Ok c =
    let st = c.args.book.now.statements in
    let tokens = token_texts c.args.tokens.now in
    elim (either c.in-Ok.parsed) [
      | inl w ↦
          let (steps, of) = w in
          let is = c.in-Ok.is ∙ ap Ok of in
          let told = c.parse.ensures.complete steps is in
          let complete : is_incomplete tokens ≡ false = false_from_ne_true (is_incomplete tokens) told.0 in
          let same = sym (judged_complete tokens complete) in
          rw (c.judged.ensures.whole steps of) (record {
            said = λ index s proof. subst (λ (t : List (List ℕ)). SaySteps st index s t steps.moves) same (c.parse.ensures.steps steps is index s proof);
            usable = c.parse.ensures.usable steps is;
            form = λ index s proof. subst (HasFormOf c.args.profile (take index st) s) same (c.parse.ensures.form steps is index s proof);
            under = c.parse.ensures.profile steps is;
            prefix = told.1 ∙ sym complete;
          })
      | inr w ↦
          let (steps, of) = w in
          let is = c.in-Ok.is ∙ ap Ok of in
          let told = c.parse.ensures.incomplete steps is in
          let same = sym (judged_known tokens told.0) in
          rw (c.judged.ensures.known steps of) (record {
            said = λ index s proof. subst (λ (t : List (List ℕ)). SaySteps st index s t steps.moves) same (c.parse.ensures.known steps is index s proof);
            usable = c.parse.ensures.known_usable steps is;
            form = λ index s proof. subst (HasFormOf c.args.profile (take index st) s) same (c.parse.ensures.known_form steps is index s proof);
            under = c.parse.ensures.known_profile steps is;
            prefix = told.1 ∙ sym told.0;
          })
    ]
