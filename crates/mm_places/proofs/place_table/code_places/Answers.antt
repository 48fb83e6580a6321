-- The codes stand behind the first `)`.
use Rattle.std.proofs.Common.{◌≡◌, ℕ, ◌+◌, ◌-◌, List, ◌∷◌, ◌++◌, length, take, drop, false}
use Rattle.std.proofs.Common.{subst, sym, ap, ◌∙◌, arith}
use Rattle.std.specs.List.{drop-map}
use Rattle.std.proofs.lemmas.List.{drop-drop, take_rest}
use Rattle.mm_base.specs.declared.token.Token.{Token}
use Rattle.mm_proof.specs.Tokens.{opening_token}
use Rattle.mm_step.specs.Plain.{token_texts}
use Rattle.mm_places.specs.Places.{AreMovePlaces}
use Rattle.mm_places.specs.Mirror.CodePlaces.{ends_from}
use Rattle.mm_places.proofs.ProofPlaces.PlaceTable.{codes_listed, none_listed}
use Rattle.mm_places.proofs.ProofPlaces.WholePlaces.{after_first}
use Rattle.mm_places.proofs.place_table.code_places.Goals as goal

pub returns : goal.returns
returns c =
    let tokens : List Token = c.args.tokens.now in
    let i = c.in-Some.closing in
    let rest : List Token = take (length tokens - 1) (drop 1 tokens) in
    let pieces : List Token = take (length tokens - (i + 2)) (drop (i + 2) tokens) in
    let more : 1 + (i + 1) ≡ i + 2 = omega arith in
    let same : pieces ≡ drop (i + 1) rest =
    take_rest tokens (i + 2) ∙ ap (λ (n : ℕ). drop n tokens) (sym more)
    ∙ sym (drop-drop (i + 1) 1 tokens)
    ∙ ap (drop (i + 1)) (sym (take_rest tokens 1)) in
    let behind_it : token_texts pieces ≡ drop (i + 1) (token_texts rest) =
    ap token_texts same ∙ sym (drop-map (λ t. t.text.now) (i + 1) rest) in
    let ends : List (ℕ × ℕ) = ends_from (i + 2) false (token_texts pieces) in
    let made : c.push_codes.new.places.items ≡ ends =
    c.in_ok-push_codes.ensures
    ∙ ap (λ (places : List (ℕ × ℕ)). places ++ ends) c.new-places.ensures.items in
    subst (λ (texts : List (List ℕ)). AreMovePlaces texts c.push_codes.new.places.items)
    (sym (after_first tokens c.requires))
    (subst (λ (places : List (ℕ × ℕ)). AreMovePlaces (opening_token ∷ token_texts rest) places)
    (sym (made ∙ ap (ends_from (i + 2) false) behind_it))
    (codes_listed (token_texts rest) i c.in-Some.ensures.1 c.in-Some.ensures.2))

pub returns-in_default : goal.returns-in_default
returns-in_default c =
    let tokens : List Token = c.args.tokens.now in
    let rest : List Token = take (length tokens - 1) (drop 1 tokens) in
    subst (λ (texts : List (List ℕ)). AreMovePlaces texts c.new-places.result.items)
    (sym (after_first tokens c.requires))
    (subst (λ (places : List (ℕ × ℕ)). AreMovePlaces (opening_token ∷ token_texts rest) places)
    (sym c.new-places.ensures.items) (none_listed (token_texts rest) c.in_default.ensures))
