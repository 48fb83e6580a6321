-- Each token is a label.
use Rattle.std.proofs.Common.{◌≡◌, ℕ, List, length, subst, sym, ap, ◌∙◌, arith}
use Rattle.std.proofs.lemmas.List.{length-map}
use Rattle.mm_step.specs.Plain.{token_texts}
use Rattle.mm_places.specs.Places.{AreMovePlaces}
use Rattle.mm_places.specs.Mirror.CodePlaces.{labels_before}
use Rattle.mm_places.proofs.ProofPlaces.PlaceTable.{labels_listed}
use Rattle.mm_places.proofs.place_table.label_places.Goals as goal

pub returns : goal.returns
returns c =
    let texts : List (List ℕ) = token_texts c.args.tokens.now in
    let all : c.loop-token.token ≡ length texts =
    omega (
      arith,
      c.loop-token-test.false,
      c.loop-token.auto.token-end,
      length-map c.args.tokens.now (λ t. t.text.now),
    ) in
    subst (λ (places : List (ℕ × ℕ)). AreMovePlaces texts places)
    (sym (c.loop-token.invariant ∙ ap labels_before all)) (labels_listed texts c.requires)
