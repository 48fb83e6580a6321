-- The letter at which the letters break the rule stands at its token.
use Rattle.std.proofs.Common.{ℕ, List, ◌<◌, length, subst, sym, ◌∙◌, arith, refl}
use Rattle.mm_step.specs.Plain.{token_texts}
use Rattle.mm_code.specs.Letters.{LettersBreak}
use Rattle.mm_places.specs.Mirror.CodeWhole.{IsFaultIndex}
use Rattle.mm_proof.proofs.ProofTokens.SaidMoves.{letters_once}
use Rattle.mm_places.proofs.ProofPlaces.WholePlaces.{joined, index_within, few_letters}
use Rattle.mm_places.proofs.ProofPlaces.WholePlaces.{place_of_letter}
use Rattle.mm_places.proofs.whole_places.letter_place.Goals as goal

pub fault_index-requires : goal.fault_index-requires
fault_index-requires c =
    let parts = c.letters_of-base.ensures in
    let letters = token_texts c.letters_of-base.result.1.now in
    subst (LettersBreak c.args.rule)
    (letters_once (token_texts c.args.tokens.now) c.requires.0 (joined letters) c.requires.1
    (parts.0, letters, parts.1, refl)
    ∙ sym (c.deref.ensures.value ∙ c.in_ok-text.ensures))
    c.requires.2

pub byte_of-piece-requires : goal.byte_of-piece-requires
byte_of-piece-requires c =
    subst (λ (l : List ℕ). c.fault_index.result < length l)
    (c.deref.ensures.value ∙ c.in_ok-text.ensures)
    (index_within c.args.rule c.deref.result.now c.fault_index.result c.fault_index.ensures)

pub overflow_add-result : goal.overflow_add-result
overflow_add-result c =
    let parts = c.letters_of-base.ensures in
    omega (
      arith,
      few_letters c.args.tokens.now parts.0 (token_texts c.letters_of-base.result.1.now)
          c.letters_of-base.result.0 c.fault_index.result c.byte_of-piece.result.0
          c.byte_of-piece.result.1 parts.1 parts.2 c.byte_of-piece.ensures,
    )

pub returns : goal.returns
returns c before s =
    let parts = c.letters_of-base.ensures in
    place_of_letter before s (token_texts c.args.tokens.now) parts.0
    (token_texts c.letters_of-base.result.1.now) c.args.rule c.fault_index.result
    c.byte_of-piece.result.0 c.byte_of-piece.result.1 c.letters_of-base.result.0 parts.1 parts.2
    c.byte_of-piece.ensures
    (subst (λ (l : List ℕ). IsFaultIndex c.args.rule l c.fault_index.result)
    (c.deref.ensures.value ∙ c.in_ok-text.ensures) c.fault_index.ensures)
