-- Each step that the judged tokens say has a place.
use Rattle.std.proofs.Common.{ℕ, List, length, sym, ap, subst, arith}
use Rattle.mm_step.specs.Plain.{token_texts}
use Rattle.mm_places.specs.declared.letters.StepLetters.{StepLetters}
use Rattle.mm_places.specs.Places.{AreMovePlaces}
use Rattle.mm_facts.specs.Mirror.Lettered.{HaveStepLetters}
use Rattle.mm_facts.proofs.LetteredLines.{have_places}
use Rattle.mm_facts.proofs.lettered.lettered_text.Goals as goal

pub text_of-requires-clause-places : goal.text_of-requires-clause-places
text_of-requires-clause-places c =
    subst (λ (places : List (ℕ × ℕ)). AreMovePlaces (token_texts c.args.tokens.now) places)
    (sym c.deref.ensures.value) c.in_ok-places.ensures.places

pub text_of-requires-clause-steps : goal.text_of-requires-clause-steps
text_of-requires-clause-steps c =
    let tokens : List (List ℕ) = token_texts c.args.tokens.now in
    let (before, s, moves, says, few) = c.requires.said in
    let have : HaveStepLetters tokens (length c.in_ok-places.places.items)
    c.in_ok-steps.steps.items =
    have_places tokens (length c.in_ok-places.places.items) c.in_ok-steps.steps.items
    c.in_ok-steps.ensures c.in_ok-places.ensures.said c.in_ok-places.ensures.known_said before s
    moves says in
    subst (λ (places : List (ℕ × ℕ)). HaveStepLetters tokens (length places) c.deref-2.result.now)
    (sym c.deref.ensures.value)
    (subst (λ (steps : List StepLetters).
    HaveStepLetters tokens (length c.in_ok-places.places.items) steps)
    (sym c.deref-2.ensures.value) have)

pub text_of-requires-clause-many : goal.text_of-requires-clause-many
text_of-requires-clause-many c =
    let (before, s, moves, says, few) = c.requires.said in
    omega (
      arith,
      few,
      c.in_ok-steps.ensures.count before s moves says,
      ap length c.deref-2.ensures.value,
    )
