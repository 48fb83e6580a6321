-- Where a compressed proof isn't strict: the first label that is spare stands at its token, and the
-- first loose mark where its move does. Clauses of `whole_place` rest on it.
use Rattle.std.proofs.Common.{◌≡◌, ℕ, ◌+◌, ◌<◌, List, ◌∷◌, length, inl, inr, refl, subst, ap, arith}
use Rattle.std.proofs.lemmas.List.{length-append, length-map}
use Rattle.std.proofs.lemmas.Option.{slice_get_within}
use Rattle.mm_base.specs.declared.token.Token.{Token}
use Rattle.mm_frame.specs.Sentence.{Sentence}
use Rattle.mm_proof.specs.declared.form.Loose.TheVariants as loose
use Rattle.mm_step.specs.Moves.{Move, mark}
use Rattle.mm_places.specs.Places.{IsMovePlace}
use Rattle.mm_step.specs.Plain.{token_texts}
use Rattle.mm_proof.specs.Tokens.{IsCompressed, SayMoves, closing_token}
use Rattle.mm_proof.specs.WholePlaces.{IsSpareLabel}
use Rattle.mm_places.specs.WholePlaces.{IsSpareAt, IsFormPlace}
use Rattle.mm_proof.specs.Mirror.CodeForm.{IsLooseBy}
use Rattle.mm_proof.proofs.ProofTokens.SaidMoves.{compressed_once}

-- the label at a token is one of the list
spare_in : (before : List Sentence) (s : Sentence) (tokens labels letters : List (List ℕ))
    → IsCompressed tokens labels letters → (token : ℕ) → IsSpareAt before s tokens token
    → (index : ℕ) × (token ≡ index + 1) × IsSpareLabel before s labels index
spare_in before s tokens labels letters c token (labels', letters', c', index, is, spare) = (
  index,
  is,
  subst (λ (l : List (List ℕ)). IsSpareLabel before s l index)
      (compressed_once tokens labels' labels letters' letters c' c).0 spare,
)

pub label_there : (before : List Sentence) (s : Sentence) (tokens : List (List ℕ)) (k : ℕ)
    → IsLooseBy before s tokens (loose.Label k) → IsFormPlace before s tokens (k + 1) 0
label_there before s tokens k (labels, letters, c, spare, first) = inl (
  (labels, letters, c, k, refl, spare),
  refl,
  λ earlier less other.
      let (index, is, there) = spare_in before s tokens labels letters c earlier other in
      first index (omega (arith, is, less)) there,
)

pub mark_there : (before : List Sentence) (s : Sentence) (tokens : List (List ℕ)) (k : ℕ)
    → IsLooseBy before s tokens (loose.Mark k) → (token byte : ℕ)
    → IsMovePlace tokens k token byte → IsFormPlace before s tokens token byte
mark_there before s tokens k (labels, letters, c, none, moves, said, first) token byte at = inr (
  (λ any other.
      let (index, is, there) = spare_in before s tokens labels letters c any other in
      none index there),
  moves,
  said,
  k,
  first,
  at,
)

-- the mark is one of the moves
pub mark_said : (before : List Sentence) (s : Sentence) (tokens : List (List ℕ)) (k : ℕ)
    → IsLooseBy before s tokens (loose.Mark k)
    → (moves : List (Move (List ℕ))) × SayMoves before s tokens moves × (k < length moves)
mark_said before s tokens k
    (labels, letters, c, none, moves, said, (earlier, later, is, at, marks, ends)) = (
      moves,
      inr said,
      omega (arith, at, ap length is, length-append earlier (mark ∷ later)),
    )

-- the label is one of the tokens
pub few_listed : (before : List Sentence) (s : Sentence) (tokens : List Token) (k : ℕ)
    → IsLooseBy before s (token_texts tokens) (loose.Label k) → k + 1 < length tokens
few_listed before s tokens k (labels, letters, c, (label, there, spare), first) =
    omega (
      arith,
      slice_get_within labels k label there,
      ap length c.whole,
      length-append labels (closing_token ∷ letters),
      length-map tokens (λ (t : Token). t.text.now),
    )
