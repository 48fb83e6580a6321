-- The list of the places of all moves: at each number it holds what is found where the code with
-- this number alone is sought. Clauses of `move_places` rest on it.
use Rattle.std.proofs.Common.{◌≡◌, ◌↔◌, ℕ, zero, suc, ◌+◌, ◌-◌, ◌<◌, ◌≤◌, Bool, true, false}
use Rattle.std.proofs.Common.{inl, inr, List, [], ◌∷◌, ◌++◌, length, map, take, drop, slice_get, Contains}
use Rattle.std.proofs.Common.{Option, Some, None, option_map, refl, sym, ap, subst, ◌∙◌, arith}
use Rattle.std.proofs.lemmas.Bool.{cases_lt}
use Rattle.std.proofs.lemmas.List.{length-append, length-map}
use Rattle.std.proofs.lemmas.Option.{same_Some, none-some, slice_get-map, slice_get_within}
use Rattle.mm_base.proofs.Lists.{get_within, get_kept, get_pushed}
use Rattle.mm_frame.specs.Sentence.{Sentence}
use Rattle.mm_step.specs.Moves.{Move}
use Rattle.mm_proof.specs.CheckedPrefix.{checked_prefix}
use Rattle.mm_proof.specs.Tokens.{SayMoves, IsNormal, opening_token, closing_token}
use Rattle.mm_places.specs.declared.places.Sought.{Sought}
use Rattle.mm_places.specs.declared.places.Sought.TheVariants.{At, Behind, Nowhere}
use Rattle.mm_places.specs.Places.{IsMovePlace, AreMovePlaces}
use Rattle.mm_places.specs.Mirror.CodePlaces.{passed, sought, in_piece, place_in}
use Rattle.mm_places.specs.Mirror.CodePlaces.{ends, behind, on_behind, ends_from, labels_before}
use Rattle.mm_places.proofs.ProofPlaces.MovePlaces.{passed_below, passed_above, passed_last}
use Rattle.mm_places.proofs.ProofPlaces.MovePlaces.{passed_leading, passed_tag, passed_cut, kinds}
use Rattle.mm_places.proofs.ProofPlaces.MovePlaces.{ended_more, Found, there, nowhere_there, found}
use Rattle.mm_places.proofs.ProofPlaces.MovePlaces.{ends_in, ends_code, letters_place, letters_only}
use Rattle.mm_places.proofs.ProofPlaces.MovePlaces.{endless_place}
use Rattle.mm_places.proofs.ProofPlaces.SomePlaces.{some_place, known_place}

-- ==== one letter

-- it ends a code, leads a number on, or breaks a rule, however many codes are passed before
data Letter (index : ℕ) (inside : Bool) (byte : ℕ) : Type 0 where
  last : passed index 0 inside byte ≡ At index
      → ((n : ℕ) → passed index (suc n) inside byte ≡ Behind n false) → Letter index inside byte
  leads : ((n : ℕ) → passed index n inside byte ≡ Behind n true) → Letter index inside byte
  breaks : ((n : ℕ) → passed index n inside byte ≡ Nowhere) → Letter index inside byte

letter : (index : ℕ) (inside : Bool) (byte : ℕ) → Letter index inside byte
letter index inside byte = elim (kinds byte) [
  | inl low ↦ breaks (λ n. passed_below index n inside byte low)
  | inr (inl high) ↦ breaks (λ n. passed_above index n inside byte high)
  | inr (inr (inl (from, to))) ↦
      last (passed_last index 0 inside byte from to)
      (λ n. passed_last index (suc n) inside byte from to ∙ ended_more index n)
  | inr (inr (inr (inl (from, to)))) ↦ leads (λ n. passed_leading index n inside byte from to)
  | inr (inr (inr (inr is))) ↦ tag inside is
]
  where
    tag : (within : Bool) → byte ≡ 90 → Letter index within byte
    tag true is = breaks (λ n. passed_cut index n true byte is refl)
    tag false is =
        last (passed_tag index 0 false byte is refl)
        (λ n. passed_tag index (suc n) false byte is refl ∙ ended_more index n)

-- ==== a piece of the letters

-- what is found of a code that so many are before, by the byte at which it ends, if it does
abbrev pub by_end : Option ℕ → (left : ℕ) → Option Bool → Sought
by_end (Some byte) left digits = At byte
by_end None left (Some digits) = Behind left digits
by_end None left None = Nowhere

sought_is : (index n : ℕ) (inside : Bool) (bytes : List ℕ)
    → sought index n inside bytes
    ≡ by_end (slice_get (ends index inside bytes) n) (n - length (ends index inside bytes))
    (behind index inside bytes)
sought_is index n inside [] =
    let none : n ≡ n - 0 = omega arith in ap (λ (k : ℕ). Behind k inside) none
sought_is index n inside (byte ∷ bytes) =
    by (letter index inside byte) n (λ i m. sought_is (index + 1) m i bytes)
  where
    by : Letter index inside byte → (k : ℕ)
        → ((i : Bool) (m : ℕ) → sought (index + 1) m i bytes
        ≡ by_end (slice_get (ends (index + 1) i bytes) m) (m - length (ends (index + 1) i bytes))
        (behind (index + 1) i bytes))
        → sought index k inside (byte ∷ bytes)
        ≡ by_end (slice_get (ends index inside (byte ∷ bytes)) k)
        (k - length (ends index inside (byte ∷ bytes))) (behind index inside (byte ∷ bytes))
    by (last here more) zero on = rw here refl
    by (last here more) (suc k) on =
        let es : List ℕ = ends (index + 1) false bytes in
        let less : k - length es ≡ suc k - suc (length es) = omega arith in
        rw (here, more k)
        (on false k
        ∙ ap (λ (m : ℕ). by_end (slice_get es k) m (behind (index + 1) false bytes)) less)
    by (leads goes) k on = rw (goes k, goes 0) (on true k)
    by (breaks none) k on = rw (none k, none 0) refl

-- ==== the pieces of the letters

past : {A : Type 0} (xs ys : List A) (n : ℕ) → length xs ≤ n
    → slice_get (xs ++ ys) n ≡ slice_get ys (n - length xs)
past [] ys n few = let none : n ≡ n - 0 = omega arith in ap (slice_get ys) none
past (x ∷ xs) ys zero few = absurd (omega arith)
past (x ∷ xs) ys (suc n) few =
    let less : n - length xs ≡ suc n - suc (length xs) = omega arith in
    past xs ys n (omega arith) ∙ ap (slice_get ys) less

none_within : {A : Type 0} (xs : List A) (n : ℕ) → slice_get xs n ≡ None → length xs ≤ n
none_within xs n none = elim (cases_lt n (length xs)) [
  | inl less ↦ let (x, at) = get_within xs n less in absurd (none-some x (sym none ∙ at))
  | inr more ↦ more
]

found_is : (token n : ℕ) (inside : Bool) (pieces : List (List ℕ))
    → place_in token n inside pieces ≡ slice_get (ends_from token inside pieces) n
found_is token n inside [] = refl
found_is token n inside (piece ∷ pieces) =
    ap (λ s. in_piece token s sought_on) (sought_is 0 n inside piece)
    ∙ by (slice_get es n) (behind 0 inside piece) refl (λ k i. found_is (token + 1) k i pieces)
  where
    es : List ℕ
    es = ends 0 inside piece

    sought_on : ℕ → Bool → Option (ℕ × ℕ)
    sought_on l i = place_in (token + 1) l i pieces

    listed_on : Bool → List (ℕ × ℕ)
    listed_on i = ends_from (token + 1) i pieces

    placed : List (ℕ × ℕ)
    placed = map (λ byte. (token, byte)) es

    none_left : slice_get es n ≡ None → length placed ≤ n
    none_left none =
        let few = none_within es n none in
        omega (arith, few, length-map {B = ℕ × ℕ} es (λ byte. (token, byte)))

    by : (end : Option ℕ) (digits : Option Bool) → slice_get es n ≡ end
        → ((k : ℕ) (i : Bool) → sought_on k i ≡ slice_get (listed_on i) k)
        → in_piece token (by_end end (n - length es) digits) sought_on
        ≡ slice_get (placed ++ on_behind digits listed_on) n
    by (Some byte) digits is on =
        sym (get_kept placed (on_behind digits listed_on) n (token, byte)
        (slice_get-map (λ byte. (token, byte)) es n ∙ ap (option_map (λ byte. (token, byte))) is))
    by None None is on = sym (past placed [] n (none_left is))
    by None (Some i) is on =
        let long : n - length es ≡ n - length placed =
        ap (λ (k : ℕ). n - k) (sym (length-map {B = ℕ × ℕ} es (λ byte. (token, byte)))) in
        on (n - length es) i ∙ ap (slice_get (listed_on i)) long
        ∙ sym (past placed (listed_on i) n (none_left is))

-- ==== among the tokens of a proof

-- a compressed one, whose first `)` stands at this index behind the `(`
module _ (rest : List (List ℕ)) (i : ℕ) (there_is : slice_get rest i ≡ Some closing_token)
    (first : ¬ (Contains (take i rest) closing_token)) where
  abbrev letters : List (List ℕ)
  letters = drop (i + 1) rest

  pub codes_listed : AreMovePlaces (opening_token ∷ rest)
      (ends_from (i + 2) false (drop (i + 1) rest))
  codes_listed number token byte = by (found (i + 2) number false 0 letters refl)
    where
      listed : place_in (i + 2) number false letters
          ≡ slice_get (ends_from (i + 2) false letters) number
      listed = found_is (i + 2) number false letters

      by : Found (i + 2) number false 0 letters
          → IsMovePlace (opening_token ∷ rest) number token byte
          ↔ (slice_get (ends_from (i + 2) false letters) number ≡ Some (token, byte))
      by (there p b e it only) = (
        λ at.
            let (piece, is, end) = letters_only rest i there_is first number token byte at in
            let same = only piece byte (ends_in letters number piece byte end) in
            sym listed ∙ e ∙ rw (is, same.0, same.1) refl,
        λ at.
            let same : (i + 2 + p, b) ≡ (token, byte) =
            same_Some (i + 2 + p, b) (token, byte) (sym e ∙ listed ∙ at) in
            subst (λ (x : ℕ × ℕ). IsMovePlace (opening_token ∷ rest) number x.0 x.1) same
            (letters_place rest i there_is first number p b (ends_code letters number p b it)),
      )
      by (nowhere_there e never) = (
        λ at.
            let (piece, is, end) = letters_only rest i there_is first number token byte at in
            absurd (never piece byte (ends_in letters number piece byte end)),
        λ at. absurd (none-some (token, byte) (sym e ∙ listed ∙ at)),
      )

-- a compressed one whose list has no end
pub none_listed : (rest : List (List ℕ)) → ¬ (Contains rest closing_token)
    → AreMovePlaces (opening_token ∷ rest) []
none_listed rest endless number token byte = (
  λ at. absurd (endless_place rest number token byte endless at),
  λ at. absurd (none-some (token, byte) at),
)

-- a normal one
label_count : (count : ℕ) → length (labels_before count) ≡ count
label_count zero = refl
label_count (suc n) =
    omega (arith, label_count n, length-append (labels_before n) ((n, 0) ∷ []))

label_there : (count n : ℕ) → n < count → slice_get (labels_before count) n ≡ Some (n, 0)
label_there zero n less = absurd (omega arith)
label_there (suc c) n less = elim (cases_lt n c) [
  | inl before ↦ get_kept (labels_before c) ((c, 0) ∷ []) n (n, 0) (label_there c n before)
  | inr past ↦
      let same : n ≡ c = omega arith in
      let long : n ≡ length (labels_before c) = omega (arith, label_count c) in
      ap (slice_get (labels_before c ++ (c, 0) ∷ [])) long ∙ get_pushed (labels_before c) (c, 0)
      ∙ ap (λ (k : ℕ). Some (k, 0)) (sym same)
]

pub labels_listed : (tokens : List (List ℕ)) → IsNormal tokens
    → AreMovePlaces tokens (labels_before (length tokens))
labels_listed tokens normal number token byte = (to, from)
  where
    at : number < length tokens
        → slice_get (labels_before (length tokens)) number ≡ Some (number, 0)
    at less = label_there (length tokens) number less

    to : IsMovePlace tokens number token byte
        → slice_get (labels_before (length tokens)) number ≡ Some (token, byte)
    to (inl (plain, is, first, less)) = rw (is, first) (at less)
    to (inr (labels, rest, parts, piece, is, end)) =
        absurd (normal (ap (λ (l : List (List ℕ)). slice_get l 0) parts.whole))

    from : slice_get (labels_before (length tokens)) number ≡ Some (token, byte)
        → IsMovePlace tokens number token byte
    from there_is =
        let within =
        slice_get_within (labels_before (length tokens)) number (token, byte) there_is in
        let less : number < length tokens = omega (arith, within, label_count (length tokens)) in
        let same : (number, 0) ≡ (token, byte) =
        same_Some (number, 0) (token, byte) (sym (at less) ∙ there_is) in
        inl (
          normal,
          sym (ap (λ (x : ℕ × ℕ). x.0) same),
          sym (ap (λ (x : ℕ × ℕ). x.1) same),
          less,
        )

-- ==== how many there are

-- so many moves have places, where each of them has one
enough : (places : List (ℕ × ℕ)) (count : ℕ)
    → ((n : ℕ) → n < count → (place : ℕ × ℕ) × (slice_get places n ≡ Some place))
    → count ≤ length places
enough places zero each = omega arith
enough places (suc n) each =
    let (place, at) = each n (omega arith) in
    let within = slice_get_within places n place at in omega (arith, within)

-- the moves that tokens say
pub moves_listed : (tokens : List (List ℕ)) (places : List (ℕ × ℕ)) → AreMovePlaces tokens places
    → (before : List Sentence) (s : Sentence) (moves : List (Move (List ℕ)))
    → SayMoves before s tokens moves → length moves ≤ length places
moves_listed tokens places are before s moves says = enough places (length moves) (λ n less.
    let (token, byte, at) = some_place before s tokens moves n says less in
    ((token, byte), (are n token byte).0 at))

-- the moves that the known prefix of the tokens says
pub known_listed : (tokens : List (List ℕ)) (places : List (ℕ × ℕ)) → AreMovePlaces tokens places
    → (before : List Sentence) (s : Sentence) (moves : List (Move (List ℕ)))
    → SayMoves before s (checked_prefix tokens) moves → length moves ≤ length places
known_listed tokens places are before s moves says = enough places (length moves) (λ n less.
    let (token, byte, at) = some_place before s (checked_prefix tokens) moves n says less in
    ((token, byte), (are n token byte).0 (known_place tokens n token byte at)))
