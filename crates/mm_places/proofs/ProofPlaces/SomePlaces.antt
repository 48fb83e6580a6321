-- Each move that tokens say has a place among them, and a move of a known prefix stands where it
-- does in the whole proof. Clauses of `move_place` rest on it.
use Rattle.std.proofs.Common.{◌≡◌, ℕ, zero, suc, ◌+◌, ◌-◌, ◌<◌, ◌≤◌, ◌⊎◌, inl, inr, List, [], ◌∷◌}
use Rattle.std.proofs.Common.{◌++◌, length, map, take, drop, get_or, slice_get, Some, Contains}
use Rattle.std.proofs.Common.{Bool, true, false, if◌then◌else◌, refl, sym, ap, subst, ◌∙◌, arith}
use Rattle.std.proofs.Common.{append_assoc}
use Rattle.std.specs.List.{AllZip, position_or_len}
use Rattle.std.proofs.Math.Seq.{take-append-add, take-append_seam}
use Rattle.std.proofs.lemmas.Bool.{cases_lt, false≢true}
use Rattle.std.proofs.lemmas.List.{length-append, length-map, length-take, length-take-le}
use Rattle.std.proofs.lemmas.List.{take-append-le, take-append-drop, take-take}
use Rattle.std.proofs.lemmas.List.Folds.{Any-from_list_any}
use Rattle.std.proofs.lemmas.Option.{same_Some, none-some}
use Rattle.std.proofs.lemmas.Slice.Eq.{bytes_eq-Decides}
use Rattle.std.proofs.lemmas.Slice.Zip.{AllZip-long}
use Rattle.mm_base.specs.Spelling.{spells}
use Rattle.mm_code.specs.declared.code.Code.{Code}
use Rattle.mm_code.specs.Letters.{Letters, SaysCode, code_for}
use Rattle.mm_frame.specs.Sentence.{Sentence}
use Rattle.mm_step.specs.Moves.{Move, name}
use Rattle.mm_proof.specs.Tokens.{Says, SayMoves, IsNormal, IsCompressed, BeginsList, is_unknown}
use Rattle.mm_proof.specs.Tokens.{is_question, opening_token, closing_token}
use Rattle.mm_proof.specs.CheckedPrefix.{token_of, known_piece, known_tokens, known_text}
use Rattle.mm_proof.specs.CheckedPrefix.{checked_prefix, begins_list, ends_list}
use Rattle.mm_places.specs.Places.{EndsCode, IsMovePlace}
use Rattle.mm_proof.proofs.Members.{contains_cases}
use Rattle.mm_proof.proofs.ProofTokens.CodeLetters.{piece_letters}
use Rattle.mm_proof.proofs.ProofTokens.SaidMoves.{normal_or_compressed, compressed_once, form_of}
use Rattle.mm_proof.proofs.ProofTokens.SaidMoves.{normal, compressed, endless}
use Rattle.mm_places.proofs.ProofPlaces.MovePlaces.{joined}

-- ==== the places of moves

-- a byte of the joined pieces stands in one of them
record IsByte (pieces : List (List ℕ)) (k : ℕ) : Type 0 where
  piece : ℕ
  byte : ℕ
  text : List ℕ
  there : slice_get pieces piece ≡ Some text
  within : byte < length text
  before : joined (take piece pieces) ++ take (byte + 1) text ≡ take (k + 1) (joined pieces)

some_byte : (pieces : List (List ℕ)) (k : ℕ) → k < length (joined pieces) → IsByte pieces k
some_byte [] k less = absurd (omega arith)
some_byte (piece ∷ pieces) k less = elim (cases_lt k (length piece)) [
  | inl here ↦
      record {
        piece = 0;
        byte = k;
        text = piece;
        there = refl;
        within = here;
        before = sym (take-append-le (k + 1) piece (joined pieces) (omega arith));
      }
  | inr behind ↦
      let rest : ℕ = k - length piece in
      let left : rest < length (joined pieces) =
      omega (arith, length-append piece (joined pieces)) in
      let it = some_byte pieces rest left in
      let all : length piece + (rest + 1) ≡ k + 1 = omega arith in
      record {
        piece = suc it.piece;
        byte = it.byte;
        text = it.text;
        there = it.there;
        within = it.within;
        before = append_assoc piece (joined (take it.piece pieces)) (take (it.byte + 1) it.text)
            ∙ ap (λ (l : List ℕ). piece ++ l) it.before
            ∙ sym (take-append-add piece (joined pieces) (rest + 1))
            ∙ ap (λ (n : ℕ). take n (piece ++ joined pieces)) all;
      }
]

-- the first of the codes that pieces say are said by the text's beginning
record Begins (pieces : List (List ℕ)) (spelled : List Code) (n : ℕ) : Type 0 where
  first : List (List ℕ)
  rest : List ℕ
  whole : joined pieces ≡ joined first ++ rest
  each : AllZip SaysCode first (take n spelled)
  long : n ≤ length (joined first)

begins : (pieces : List (List ℕ)) (spelled : List Code) (n : ℕ) → AllZip SaysCode pieces spelled
    → n ≤ length spelled → Begins pieces spelled n
begins pieces spelled zero each less =
    record { first = []; rest = joined pieces; whole = refl; each = tt; long = omega arith }
begins [] [] (suc n) each less = absurd (omega arith)
begins [] (code ∷ spelled) (suc n) each less = absurd each
begins (piece ∷ pieces) [] (suc n) each less = absurd each
begins (piece ∷ pieces) (code ∷ spelled) (suc n) each less =
    let it = begins pieces spelled n each.1 (omega arith) in
    record {
      first = piece ∷ it.first;
      rest = it.rest;
      whole = ap (λ (l : List ℕ). piece ++ l) it.whole
          ∙ sym (append_assoc piece (joined it.first) it.rest);
      each = (each.0, it.each);
      long = omega (
        arith,
        it.long,
        piece_letters piece code each.0,
        length-append piece (joined it.first),
      );
    }

-- a beginning of the letters that says so many codes ends somewhere
beginning_ends : (letters : List (List ℕ)) (text rest : List ℕ) (codes : List Code) (number : ℕ)
    → joined letters ≡ text ++ rest → Letters text codes → length codes ≡ number + 1
    → 1 ≤ length text → (piece : ℕ) × (byte : ℕ) × EndsCode letters number piece byte
beginning_ends letters text rest codes number whole said count some =
    let k : ℕ = length text - 1 in
    let less : k < length (joined letters) =
    omega (arith, ap length whole, length-append text rest) in
    let at : IsByte letters k = some_byte letters k less in
    let all : k + 1 ≡ length text = omega arith in
    let is : joined (take at.piece letters) ++ take (at.byte + 1) at.text ≡ text =
    at.before ∙ ap (λ (n : ℕ). take n (joined letters)) all
    ∙ ap (λ (l : List ℕ). take (length text) l) whole ∙ take-append_seam text rest in (
      at.piece,
      at.byte,
      record {
        text = at.text;
        there = at.there;
        within = at.within;
        codes = codes;
        said = rw is said;
        count = count;
      },
    )

-- each code of the letters ends somewhere
code_ends : (letters : List (List ℕ)) (codes : List Code) (number : ℕ)
    → Letters (joined letters) codes → number < length codes
    → (piece : ℕ) × (byte : ℕ) × EndsCode letters number piece byte
code_ends letters codes number said less =
    let same : length codes ≡ length said.spelled =
    ap length said.are_codes ∙ length-map said.spelled code_for in
    let it : Begins said.spells.pieces said.spelled (number + 1) =
    begins said.spells.pieces said.spelled (number + 1) said.spells.each (omega arith) in
    beginning_ends letters (joined it.first) it.rest
    (map code_for (take (number + 1) said.spelled)) number (said.spells.joined ∙ it.whole)
    (record {
      spelled = take (number + 1) said.spelled;
      spells = record { pieces = it.first; each = it.each; joined = refl };
      are_codes = refl;
    })
    (length-map (take (number + 1) said.spelled) code_for
    ∙ length-take-le (number + 1) said.spelled (omega arith))
    (omega (arith, it.long))

pub some_place : (before : List Sentence) (s : Sentence) (tokens : List (List ℕ))
    (moves : List (Move (List ℕ))) (number : ℕ) → SayMoves before s tokens moves
    → number < length moves → (token : ℕ) × (byte : ℕ) × IsMovePlace tokens number token byte
some_place before s tokens moves number (inl (plain, is)) less =
    let same : length moves ≡ length tokens = ap length is ∙ length-map tokens name in
    (number, 0, inl (plain, refl, refl, omega arith))
some_place before s tokens moves number (inr said) less =
    let same = AllZip-long (Says (said.labels ++ said.listed)) said.codes moves said.each in
    let (piece, byte, it) =
    code_ends said.letters said.codes number said.coded (omega arith) in (
      length said.listed + 2 + piece,
      byte,
      inr (said.listed, said.letters, said.parts, piece, refl, it),
    )

-- ==== the known prefix of an incomplete proof: its moves stand where they do in the whole

-- the pieces before a `?`, and all of them
record IsFront (front whole : List (List ℕ)) (piece byte : ℕ) (text : List ℕ) : Type 0 where
  full : List ℕ
  there : slice_get whole piece ≡ Some full
  within : byte < length full
  same : joined (take piece front) ++ take (byte + 1) text
      ≡ joined (take piece whole) ++ take (byte + 1) full

-- what stands before a `?` of a token
token_of_cases : (text : List ℕ) → (token_of text ≡ []) ⊎ (token_of text ≡ text ∷ [])
token_of_cases [] = inl refl
token_of_cases (b ∷ text) = inr refl

one_cut : (n : ℕ) (token : List ℕ) (rest : List (List ℕ)) (piece byte : ℕ) (text : List ℕ)
    → slice_get (take n token ∷ []) piece ≡ Some text → byte < length text
    → IsFront (take n token ∷ []) (token ∷ rest) piece byte text
one_cut n token rest zero byte text there within =
    let is : take n token ≡ text = same_Some (take n token) text there in
    let few = length-take n token in
    let shorter : byte + 1 ≤ n = omega (arith, few, within, ap length is) in
    record {
      full = token;
      there = refl;
      within = omega (arith, few, within, ap length is);
      same = rw (← is) (take-take (byte + 1) n token shorter);
    }
one_cut n token rest (suc piece) byte text there within = absurd (none-some text there)

cut_token : (n : ℕ) (token : List ℕ) (rest : List (List ℕ)) (piece byte : ℕ) (text : List ℕ)
    → slice_get (token_of (take n token)) piece ≡ Some text → byte < length text
    → IsFront (token_of (take n token)) (token ∷ rest) piece byte text
cut_token n token rest piece byte text there within = elim (token_of_cases (take n token)) [
  | inl none ↦ absurd (none-some text (rw none at there))
  | inr one ↦ rw one (one_cut n token rest piece byte text (rw one at there) within)
]

-- the piece before a `?`, and the tokens from that one on
cut_piece : (tokens : List (List ℕ)) (n piece byte : ℕ) (text : List ℕ)
    → slice_get (known_piece (slice_get tokens n)) piece ≡ Some text → byte < length text
    → IsFront (known_piece (slice_get tokens n)) (drop n tokens) piece byte text
cut_piece [] n piece byte text there within = absurd (none-some text there)
cut_piece (t ∷ tokens) zero piece byte text there within =
    cut_token (position_or_len is_question t) t tokens piece byte text there within
cut_piece (t ∷ tokens) (suc n) piece byte text there within =
    cut_piece tokens n piece byte text there within

front_more : (x : List ℕ) (front whole : List (List ℕ)) (piece byte : ℕ) (text : List ℕ)
    → IsFront front whole piece byte text → IsFront (x ∷ front) (x ∷ whole) (suc piece) byte text
front_more x front whole piece byte text it = record {
  full = it.full;
  there = it.there;
  within = it.within;
  same = append_assoc x (joined (take piece front)) (take (byte + 1) text)
      ∙ ap (λ (l : List ℕ). x ++ l) it.same
      ∙ sym (append_assoc x (joined (take piece whole)) (take (byte + 1) it.full));
}

front_of : (listed front whole : List (List ℕ))
    → ((piece byte : ℕ) (text : List ℕ) → slice_get front piece ≡ Some text → byte < length text
    → IsFront front whole piece byte text)
    → (piece byte : ℕ) (text : List ℕ) → slice_get (listed ++ front) piece ≡ Some text
    → byte < length text → IsFront (listed ++ front) (listed ++ whole) piece byte text
front_of [] front whole all piece byte text there within = all piece byte text there within
front_of (x ∷ listed) front whole all zero byte text there within =
    let is : x ≡ text = same_Some x text there in
    record { full = x; there = refl; within = rw is within; same = rw is refl }
front_of (x ∷ listed) front whole all (suc piece) byte text there within =
    front_more x (listed ++ front) (listed ++ whole) piece byte text
    (front_of listed front whole all piece byte text there within)

-- a code that ends in the front ends there in the whole
ends_in_whole : (front whole : List (List ℕ)) (number piece byte : ℕ)
    → ((text : List ℕ) → slice_get front piece ≡ Some text → byte < length text
    → IsFront front whole piece byte text)
    → EndsCode front number piece byte → EndsCode whole number piece byte
ends_in_whole front whole number piece byte all it =
    let in_whole : IsFront front whole piece byte it.text = all it.text it.there it.within in
    record {
      text = in_whole.full;
      there = in_whole.there;
      within = in_whole.within;
      codes = it.codes;
      said = rw (← in_whole.same) it.said;
      count = it.count;
    }

-- ---- tokens that go on

longer : (tokens labels letters more : List (List ℕ)) → IsCompressed tokens labels letters
    → IsCompressed (tokens ++ more) labels (letters ++ more)
longer tokens labels letters more c = record {
  whole = ap (λ (l : List (List ℕ)). l ++ more) c.whole
      ∙ ap (λ (l : List (List ℕ)). opening_token ∷ l)
      (append_assoc labels (closing_token ∷ letters) more);
  first = c.first;
}

begins_so : (tokens : List (List ℕ)) → begins_list tokens ≡ true → BeginsList tokens
begins_so [] e = absurd cc
begins_so (t ∷ tokens) e = ap Some ((bytes_eq-Decides t opening_token).0 e)

begins_not : (tokens : List (List ℕ)) → begins_list tokens ≡ false → IsNormal tokens
begins_not [] e = λ is. none-some opening_token is
begins_not (t ∷ tokens) e = λ is.
    false≢true (sym e ∙ (bytes_eq-Decides t opening_token).1 (same_Some t opening_token is))

ends_so : (tokens : List (List ℕ)) → ends_list tokens ≡ true → Contains tokens closing_token
ends_so tokens e =
    let some = Any-from_list_any (λ t. spells t closing_token) tokens e in
    let is : some.1 ≡ closing_token = (bytes_eq-Decides some.1 closing_token).0 some.4 in
    subst (λ (t : List ℕ). Contains tokens t) is (some.0, some.2, some.3)

-- a first part with a token begins as the whole does
front_begins : (tokens : List (List ℕ)) (n : ℕ) (x : List ℕ) → Contains (take n tokens) x
    → BeginsList tokens → BeginsList (take n tokens)
front_begins [] zero x has is = is
front_begins [] (suc n) x has is = is
front_begins (t ∷ tokens) zero x has is = absurd (let less : has.0 < 0 = has.1 in omega arith)
front_begins (t ∷ tokens) (suc n) x has is = is

whole_begins : (tokens : List (List ℕ)) (n : ℕ) → BeginsList (take n tokens) → BeginsList tokens
whole_begins [] zero is = is
whole_begins [] (suc n) is = is
whole_begins (t ∷ tokens) zero is = absurd (none-some opening_token is)
whole_begins (t ∷ tokens) (suc n) is = is

-- the `)` stands behind the `(`
behind_opening : (tokens : List (List ℕ)) → BeginsList tokens → Contains tokens closing_token
    → Contains (drop 1 tokens) closing_token
behind_opening [] is has = absurd (none-some opening_token is)
behind_opening (t ∷ tokens) is has = elim (contains_cases t tokens closing_token has) [
  | inl same ↦
      let both : opening_token ≡ closing_token = sym (same_Some t opening_token is) ∙ same in
      let bytes : ◌≡◌ {A = ℕ} 40 41 = ap (λ (l : List ℕ). get_or l 0 0) both in
      absurd (omega arith)
  | inr behind ↦ behind
]

-- ---- of a compressed proof whose list ends before the first `?`

known_letters : (tokens labels letters : List (List ℕ)) (n number token byte : ℕ)
    → IsCompressed (take n tokens) labels letters
    → IsMovePlace (take n tokens ++ known_piece (slice_get tokens n)) number token byte
    → IsMovePlace tokens number token byte
known_letters tokens labels letters n number token byte c (inl p) =
    absurd (normal_or_compressed _ labels _ p.0
    (longer (take n tokens) labels letters (known_piece (slice_get tokens n)) c))
known_letters tokens labels letters n number token byte c
    (inr (labels', letters', c', piece, is, it)) =
    let front = known_piece (slice_get tokens n) in
    let same = compressed_once (take n tokens ++ front) labels' labels letters' (letters ++ front)
    c' (longer (take n tokens) labels letters front c) in
    let all : IsCompressed tokens labels (letters ++ drop n tokens) =
    subst (λ (l : List (List ℕ)). IsCompressed l labels (letters ++ drop n tokens))
    (take-append-drop n tokens) (longer (take n tokens) labels letters (drop n tokens) c) in
    let ends_there : EndsCode (letters ++ front) number piece byte =
    subst (λ (l : List (List ℕ)). EndsCode l number piece byte) same.1 it in
    inr (
      labels,
      letters ++ drop n tokens,
      all,
      piece,
      is ∙ ap (λ (l : List (List ℕ)). length l + 2 + piece) same.0,
      ends_in_whole (letters ++ front) (letters ++ drop n tokens) number piece byte
          (front_of letters front (drop n tokens) (cut_piece tokens n) piece byte) ends_there,
    )

known_compressed : (tokens : List (List ℕ)) (n number token byte : ℕ) → BeginsList tokens
    → ends_list (take n tokens) ≡ true
    → IsMovePlace (take n tokens ++ known_piece (slice_get tokens n)) number token byte
    → IsMovePlace tokens number token byte
known_compressed tokens n number token byte begun ended at =
    let has = ends_so (take n tokens) ended in
    let front_begun = front_begins tokens n closing_token has begun in
    elim (form_of [] (take n tokens)) [
      | normal not ↦ absurd (not front_begun)
      | compressed labels letters c ↦ known_letters tokens labels letters n number token byte c at
      | endless broken ↦ absurd (broken.1 (behind_opening (take n tokens) front_begun has))
    ]

-- ---- of a normal proof

known_normal : (tokens : List (List ℕ)) (n number token byte : ℕ) → IsNormal tokens
    → IsMovePlace (take n tokens) number token byte → IsMovePlace tokens number token byte
known_normal tokens n number token byte plain (inl (front, is, first, less)) =
    inl (plain, is, first, omega (arith, less, length-take n tokens))
known_normal tokens n number token byte plain (inr (labels, letters, c, piece, is, it)) =
    absurd (plain (whole_begins tokens n (ap (λ (l : List (List ℕ)). slice_get l 0) c.whole)))

-- nothing has no moves
none_known : (number token byte : ℕ) → IsMovePlace [] number token byte → ⊥
none_known number token byte (inl (plain, is, first, less)) = omega arith
none_known number token byte (inr (labels, letters, c, piece, is, it)) =
    none-some opening_token (ap (λ (l : List (List ℕ)). slice_get l 0) c.whole)

-- a move of the known prefix stands where it does in the whole
pub known_place : (tokens : List (List ℕ)) (number token byte : ℕ)
    → IsMovePlace (checked_prefix tokens) number token byte → IsMovePlace tokens number token byte
known_place tokens number token byte =
    by (begins_list tokens) (ends_list (known_tokens tokens)) refl refl
  where
    by : (begun ended : Bool) → begins_list tokens ≡ begun → ends_list (known_tokens tokens) ≡ ended
        → IsMovePlace
        (if begun then (if ended then known_text tokens else []) else known_tokens tokens) number
        token byte
        → IsMovePlace tokens number token byte
    by false ended b e at =
        known_normal tokens (position_or_len is_unknown tokens) number token byte
        (begins_not tokens b) at
    by true false b e at = absurd (none_known number token byte at)
    by true true b e at =
        known_compressed tokens (position_or_len is_unknown tokens) number token byte
        (begins_so tokens b) e at
