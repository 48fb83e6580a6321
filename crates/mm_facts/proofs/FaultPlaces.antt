-- Where the tokens of a proof are at fault in their file: what stands where their moves stop, and
-- that it has a place.
use Rattle.std.proofs.Common.{◌≡◌, ℕ, ◌+◌, ◌<◌, ◌≤◌, List, [], ◌∷◌, map, take}
use Rattle.std.proofs.Common.{length, slice_get, get_or, Option, Some, None, Bool, true, false}
use Rattle.std.proofs.Common.{inr, refl, sym, ap, subst, ◌∙◌, arith, option_map}
use Rattle.std.specs.List.{sum_by}
use Rattle.std.proofs.lemmas.List.{length-append, length-map}
use Rattle.std.proofs.lemmas.List.Sums.{get_or-le-sum_by}
use Rattle.std.proofs.lemmas.Option.{slice_get_within, slice_get-map, slice_get-get_or, none-some}
use Rattle.std.proofs.lemmas.Option.{same_Some}
use Rattle.std.proofs.lemmas.Option.{get_or_from_slice_get}
use Rattle.mm_base.specs.declared.token.Token.{Token}
use Rattle.mm_base.specs.Token.{PlainToken, plain_token}
use Rattle.mm_base.specs.MostBytes.{most_bytes}
use Rattle.mm_code.specs.Words.{texts_of}
use Rattle.mm_frame.specs.Sentence.{Sentence}
use Rattle.mm_step.specs.declared.fault.ProofRule.{ProofRule}
use Rattle.mm_step.specs.declared.profile.Profile.{Profile}
use Rattle.mm_proof.specs.ReadSteps.{ReadSteps}
use Rattle.mm_step.specs.Steps.{IsProofNumber}
use Rattle.mm_listing.specs.declared.halt.Halt.{Halt}
use Rattle.mm_listing.specs.declared.halt.HaltAt.{HaltAt}
use Rattle.mm_listing.specs.declared.halt.HaltAt.TheVariants as at
use Rattle.mm_step.specs.Moves.{Move, steps_in}
use Rattle.mm_step.specs.Plain.{token_texts}
use Rattle.mm_proof.specs.Tokens.{is_incomplete, SayMoves}
use Rattle.mm_proof.specs.CheckedPrefix.{checked_prefix}
use Rattle.mm_places.specs.Places.{IsMovePlace, AreMovePlaces}
use Rattle.mm_listing.specs.Halted.{StandsAtHalt}
use Rattle.mm_places.proofs.ProofPlaces.WholePlaces.{move_within}
use Rattle.mm_rules.proofs.Judgements.JudgedProofs.{texts_of as placed_texts}
use Rattle.mm_facts.specs.Explained.{judged_tokens, TokensHalt}
use Rattle.mm_facts.specs.StepTexts.{IsMovePosition}
use Rattle.mm_facts.specs.Why.{IsPosition, IsStopPlace, IsPlaceAmong}
use Rattle.mm_facts.specs.Mirror.Explaining.{StopsIn, IsCauseOf}
use Rattle.mm_facts.specs.declared.details.Cause.{Cause}
use Rattle.mm_facts.specs.declared.named_halt.NamedHalt.{NamedHalt}
use Rattle.mm_facts.specs.declared.details.Cause.TheVariants as cause
use Rattle.mm_facts.proofs.TokenHalts.{judged_complete, judged_known, tokens_halt}
use Rattle.mm_facts.proofs.TokenHalts.{halt_caused, fault_caused}

-- ---- a move stands within its token

-- its index is that of a token, and its byte is within all bytes
pub token_fits : (tokens : List Token) (token byte : ℕ) (text : List ℕ)
    → sum_by length (token_texts tokens) ≤ most_bytes
    → slice_get (token_texts tokens) token ≡ Some text → byte ≤ length text
    → (token < length tokens) × (byte ≤ most_bytes)
token_fits tokens token byte text room there within =
    let texts : List (List ℕ) = token_texts tokens in
    let less = slice_get_within texts token text there in
    let is : get_or texts token [] ≡ text = get_or_from_slice_get texts token text [] there in (
      omega (arith, less, length-map tokens (λ t. t.text.now)),
      omega (arith, get_or-le-sum_by length texts token [] less, ap length is),
    )

pub place_fits : (tokens : List Token) (number token byte : ℕ)
    → sum_by length (token_texts tokens) ≤ most_bytes
    → IsMovePlace (token_texts tokens) number token byte
    → (token < length tokens) × (byte ≤ most_bytes)
place_fits tokens number token byte room place =
    let (text, there, within) = move_within (token_texts tokens) number token byte place in
    token_fits tokens token byte text room there within

-- ---- the position of a byte of a token

pub position_there : (tokens : List Token) (token byte at : ℕ) (other : Token)
    → token < length tokens → at ≡ (get_or tokens token other).at + byte
    → IsPosition (map plain_token tokens) token byte at
position_there tokens token byte at other less is = (
  plain_token (get_or tokens token other),
  rw slice_get-map (ap (λ (o : Option Token). option_map plain_token o)
      (slice_get-get_or tokens token other less)),
  is,
)

-- ---- the place where moves stop

-- where it isn't the end, a move is left
pub some_left : (st : List Sentence) (left : List (Move (List ℕ))) (a : HaltAt) → ¬ (a ≡ at.End)
    → StandsAtHalt st left a → (move : Move (List ℕ)) × (more : List (Move (List ℕ)))
    × (left ≡ move ∷ more)
some_left st [] a other stands = absurd (other stands)
some_left st (move ∷ more) a other stands = (move, more, refl)

-- so the move there is one that the judged tokens say
pub some_said : (tokens : List (List ℕ)) (halt : Halt) → StopsIn tokens halt
    → ¬ (halt.at ≡ at.End)
    → (before : List Sentence) × (s : Sentence) × (moves : List (Move (List ℕ)))
    × SayMoves before s (judged_tokens tokens) moves × (halt.passed < length moves)
some_said tokens halt (limit, st, before, s, prefix, moves, said, h) other =
    let (move, more, is) = some_left st h.there.left halt.at other h.place in (
      before,
      s,
      moves,
      said,
      omega (
        arith,
        h.count,
        ap length h.there.parts,
        ap length is,
        length-append h.there.earlier h.there.left,
      ),
    )

-- its place is the place where they stop
pub stop_at_move : (st : List Sentence) (left : List (Move (List ℕ))) (a : HaltAt)
    → ¬ (a ≡ at.End) → StandsAtHalt st left a
    → (tokens : List PlainToken) (end passed count token byte at : ℕ) → passed ≡ count
    → IsMovePlace (texts_of tokens) passed token byte → IsPosition tokens token byte at
    → IsStopPlace tokens end count left at
stop_at_move st [] a other stands tokens end passed count token byte at same place position =
    absurd (other stands)
stop_at_move st (move ∷ more) a other stands tokens end passed count token byte at same place
    position = (
      token,
      byte,
      subst (λ (n : ℕ). IsMovePlace (texts_of tokens) n token byte) same place,
      position,
    )

-- no move that the judged tokens say lacks a place
pub never_none : (tokens : List (List ℕ)) (number : ℕ) (found : Option (ℕ × ℕ)) → found ≡ None
    → ((before : List Sentence) → (s : Sentence) → (moves : List (Move (List ℕ)))
    → SayMoves before s tokens moves → number < length moves
    → (token : ℕ) × (byte : ℕ) × (found ≡ Some (token, byte)))
    → ((before : List Sentence) → (s : Sentence) → (moves : List (Move (List ℕ)))
    → SayMoves before s (checked_prefix tokens) moves → number < length moves
    → (token : ℕ) × (byte : ℕ) × (found ≡ Some (token, byte)))
    → (before : List Sentence) (s : Sentence) (moves : List (Move (List ℕ)))
    → SayMoves before s (judged_tokens tokens) moves → number < length moves → ⊥
never_none tokens number found none whole known before s moves said less =
    go (is_incomplete tokens) refl
  where
    go : (b : Bool) → is_incomplete tokens ≡ b → ⊥
    go true e =
        let at = known before s moves
        (subst (λ (ts : List (List ℕ)). SayMoves before s ts moves) (judged_known tokens e) said)
        less in
        none-some (at.0, at.1) (sym none ∙ at.2)
    go false e =
        let at = whole before s moves
        (subst (λ (ts : List (List ℕ)). SayMoves before s ts moves) (judged_complete tokens e) said)
        less in
        none-some (at.0, at.1) (sym none ∙ at.2)

-- each move that the judged tokens say has one of so many places
pub has_place : (tokens : List (List ℕ)) (count : ℕ)
    → ((before : List Sentence) (s : Sentence) (moves : List (Move (List ℕ)))
    → SayMoves before s tokens moves → length moves ≤ count)
    → ((before : List Sentence) (s : Sentence) (moves : List (Move (List ℕ)))
    → SayMoves before s (checked_prefix tokens) moves → length moves ≤ count)
    → (before : List Sentence) (s : Sentence) (moves : List (Move (List ℕ)))
    → SayMoves before s (judged_tokens tokens) moves → (index : ℕ) → index < length moves
    → index < count
has_place tokens count whole known before s moves said index less = go (is_incomplete tokens) refl
  where
    go : (b : Bool) → is_incomplete tokens ≡ b → index < count
    go true e =
        let few = known before s moves
        (subst (λ (ts : List (List ℕ)). SayMoves before s ts moves) (judged_known tokens e) said) in
        omega (arith, less, few)
    go false e =
        let few = whole before s moves
        (subst (λ (ts : List (List ℕ)). SayMoves before s ts moves) (judged_complete tokens e)
        said) in
        omega (arith, less, few)

-- ---- the position of a move, by the places of all

-- it is one of the tokens, and a byte of it
pub listed_place : (tokens : List Token) (places : List (ℕ × ℕ)) (index : ℕ)
    → sum_by length (token_texts tokens) ≤ most_bytes
    → AreMovePlaces (token_texts tokens) places → index < length places
    → IsMovePlace (token_texts tokens) index (get_or places index (0, 0)).0
    (get_or places index (0, 0)).1
    × ((get_or places index (0, 0)).0 < length tokens)
    × ((get_or places index (0, 0)).1 ≤ most_bytes)
listed_place tokens places index room are less =
    let place : ℕ × ℕ = get_or places index (0, 0) in
    let there = (are index place.0 place.1).1 (slice_get-get_or places index (0, 0) less) in
    let fits = place_fits tokens index place.0 place.1 room there in
    (there, fits.0, fits.1)

-- the position of the byte is that of the move
pub listed_position : (tokens : List Token) (index token byte at : ℕ) (other : Token)
    → token < length tokens → IsMovePlace (token_texts tokens) index token byte
    → IsPosition (map plain_token tokens) token byte at
    → IsMovePosition (map plain_token tokens) index (get_or tokens token other).file at
listed_position tokens index token byte at other less place (one, there, is) =
    let here : slice_get (map plain_token tokens) token
    ≡ Some (plain_token (get_or tokens token other)) =
    rw slice_get-map (ap (λ (o : Option Token). option_map plain_token o)
    (slice_get-get_or tokens token other less)) in
    let same : plain_token (get_or tokens token other) ≡ one =
    same_Some (plain_token (get_or tokens token other)) one (sym here ∙ there) in (
      token,
      byte,
      one,
      subst (λ (texts : List (List ℕ)). IsMovePlace texts index token byte) (placed_texts tokens)
          place,
      there,
      ap (λ (t : PlainToken). t.file) same,
      is,
    )

-- ---- the place of a fault whose cause is where moves stop

pub place_caused : {profile : Profile} {st : List Sentence} {id : ℕ} {tokens : List (List ℕ)}
    {rule : ProofRule} {step : ℕ} {it : Cause} {steps : ReadSteps} {stop : NamedHalt}
    (is : it ≡ cause.Moves steps stop) (r : IsCauseOf profile st id tokens rule step it)
    (index : ℕ) (s : Sentence) (number : IsProofNumber st id index s)
    (placed : List PlainToken) → tokens ≡ texts_of placed → (end at : ℕ)
    → IsStopPlace placed end
    (length (halt_caused is r index s number).halts.there.earlier)
    (halt_caused is r index s number).halts.there.left at
    → IsPlaceAmong profile (take index st) s placed end rule step at
place_caused {profile} {st} {id} {tokens} {rule} {step} {it} {steps} {stop} is r index s number
    placed same end at stops =
    let found = halt_caused is r index s number in
    let fault = fault_caused is r index s number in
    let before : List Sentence = take index st in
    inr (subst
    (λ (ts : List (List ℕ)). (h : TokensHalt profile before s ts (Some rule))
    × (step ≡ steps_in h.halts.earlier + 1)
    × IsStopPlace placed end (length h.halts.earlier) h.halts.left at)
    same (
      tokens_halt profile st before s tokens stop.halt (Some rule) fault.0 found,
      fault.1,
      stops,
    ))
