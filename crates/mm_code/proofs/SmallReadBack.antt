-- What is laid out as in the files of real libraries is found again: the tokens of the text are the
-- labels between their parentheses, and then pieces of the letters.
use Rattle.std.proofs.Common.{◌≡◌, ℕ, zero, suc, ◌-◌, ◌<◌, inl, inr, List, [], ◌∷◌, ◌++◌}
use Rattle.std.proofs.Common.{true, false, length, map, refl, sym, ap, ◌∙◌, arith, flat_map}
use Rattle.std.proofs.Common.{append_assoc, append-nil, replicate}
use Rattle.std.specs.List.{onto_first, AllByRecursion}
use Rattle.std.proofs.lemmas.Bool.{cases_lt}
use Rattle.mm_base.specs.Token.{is_space}
use Rattle.mm_base.proofs.Lists.{all_append}
use Rattle.mm_code.specs.Words.{tokens_in, LacksWhiteSpace, IsOneToken}
use Rattle.mm_code.specs.Layout.{in_parentheses}
use Rattle.mm_code.specs.SmallLayout.{LinePiece, token, letter, behind, letter_pieces, shown}
use Rattle.mm_code.specs.SmallLayout.{SmallLaidOut}
use Rattle.mm_code.specs.Mirror.SmallLines.{small_rest, small_room, line_start}
use Rattle.mm_code.proofs.ReadBack.{tokens_in-nil, tokens_in-space, tokens_in-end, tokens_in-on}
use Rattle.mm_code.proofs.ReadBack.{tokens_in-token}
use Rattle.mm_code.proofs.SmallLines.{piece_fits, piece_breaks, end_fits, end_breaks, small_text}

-- ==== white space before a word

tokens_in-spaces : (count : ℕ) (bytes : List ℕ)
    → tokens_in (replicate count 32 ++ bytes) ≡ tokens_in bytes
tokens_in-spaces zero bytes = refl
tokens_in-spaces (suc count) bytes =
    tokens_in-space 32 (replicate count 32 ++ bytes) refl ∙ tokens_in-spaces count bytes

tokens_in-start : (indent : ℕ) (bytes : List ℕ)
    → tokens_in (line_start indent ++ bytes) ≡ tokens_in bytes
tokens_in-start indent bytes =
    tokens_in-space 10 (replicate indent 32 ++ bytes) refl ∙ tokens_in-spaces indent bytes

-- a text whose first byte is white space
record StartsWhite (text : List ℕ) : Type 0 where
  byte : ℕ
  after : List ℕ
  is : text ≡ byte ∷ after
  white : is_space byte ≡ true

-- nothing, or a token before other pieces
abbrev BeginsWithToken : List LinePiece → Type 0
BeginsWithToken [] = Unit {0}
BeginsWithToken (token bytes ∷ pieces) = Unit {0}
BeginsWithToken (letter byte ∷ pieces) = ⊥

rest_white : (indent room : ℕ) (pieces : List LinePiece) → BeginsWithToken pieces
    → StartsWhite (small_rest indent room pieces)
rest_white indent room [] is =
    elim (cases_lt 2 room) [
      | inl fits ↦
          record { byte = 32; after = []; is = end_fits indent room fits; white = refl }
      | inr short ↦ record {
        byte = 10;
        after = replicate indent 32;
        is = end_breaks indent room short;
        white = refl;
      }
    ]
rest_white indent room (token bytes ∷ pieces) is =
    elim (cases_lt room (length (behind (token bytes)))) [
      | inl long ↦ record {
        byte = 10;
        after = _;
        is = piece_breaks indent room (token bytes) pieces long;
        white = refl;
      }
      | inr fits ↦ record {
        byte = 32;
        after = _;
        is = piece_fits indent room (token bytes) pieces fits;
        white = refl;
      }
    ]
rest_white indent room (letter byte ∷ pieces) is = absurd is

-- ==== tokens

-- those that have some bytes
found : List (List ℕ) → List (List ℕ)
found [] = []
found ([] ∷ tokens) = found tokens
found ((byte ∷ bytes) ∷ tokens) = (byte ∷ bytes) ∷ found tokens

found-cons : (bytes : List ℕ) (tokens : List (List ℕ))
    → found (bytes ∷ tokens) ≡ found (bytes ∷ []) ++ found tokens
unfolding found
found-cons [] tokens = refl
found-cons (byte ∷ bytes) tokens = refl

found_all : (tokens : List (List ℕ)) → AllByRecursion IsOneToken tokens → found tokens ≡ tokens
unfolding found
found_all [] are = refl
found_all ([] ∷ tokens) are = absurd (omega (arith, are.0.0))
found_all ((byte ∷ bytes) ∷ tokens) are =
    ap (λ (ts : List (List ℕ)). (byte ∷ bytes) ∷ ts) (found_all tokens are.1)

word_found : (bytes rest : List ℕ) → LacksWhiteSpace bytes → StartsWhite rest
    → tokens_in (bytes ++ rest) ≡ found (bytes ∷ []) ++ tokens_in rest
unfolding found
word_found [] rest dark starts = refl
word_found (byte ∷ bytes) rest dark starts =
    let word = byte ∷ bytes in
    let here = tokens_in-token word starts.byte starts.after (omega arith, dark) starts.white in
    let there = tokens_in-space starts.byte starts.after starts.white in
    ap (λ (t : List ℕ). tokens_in (word ++ t)) starts.is ∙ here
    ∙ ap (λ (ts : List (List ℕ)). word ∷ ts)
    (sym there ∙ ap tokens_in (sym starts.is))

-- what is left behind some of the tokens of a text
record Reads (indent : ℕ) (text : List ℕ) (tokens : List (List ℕ))
    (more : List LinePiece) : Type 0 where
  left : ℕ
  are : tokens_in text ≡ tokens ++ tokens_in (small_rest indent left more)

token_found : (indent room : ℕ) (bytes : List ℕ) (more : List LinePiece) → LacksWhiteSpace bytes
    → BeginsWithToken more
    → Reads indent (small_rest indent room (token bytes ∷ more)) (found (bytes ∷ [])) more
token_found indent room bytes more dark begins =
    let piece = token bytes in
    elim (cases_lt room (length (behind piece))) [
      | inl long ↦
          let left = small_room indent (length bytes) in
          let rest = small_rest indent left more in
          record {
            left = left;
            are =
                ap tokens_in (piece_breaks indent room piece more long
                ∙ append_assoc (line_start indent) bytes rest)
                ∙ tokens_in-start indent (bytes ++ rest)
                ∙ word_found bytes rest dark (rest_white indent left more begins);
          }
      | inr fits ↦
          let left = room - length (behind piece) in
          let rest = small_rest indent left more in
          record {
            left = left;
            are =
                ap tokens_in (piece_fits indent room piece more fits)
                ∙ tokens_in-space 32 (bytes ++ rest) refl
                ∙ word_found bytes rest dark (rest_white indent left more begins);
          }
    ]

begins_with : (tokens : List (List ℕ)) (more : List LinePiece) → BeginsWithToken more
    → BeginsWithToken (map token tokens ++ more)
begins_with [] more begins = begins
begins_with (bytes ∷ tokens) more begins = tt

tokens_found : (indent room : ℕ) (tokens : List (List ℕ)) (more : List LinePiece)
    → AllByRecursion LacksWhiteSpace tokens → BeginsWithToken more
    → Reads indent (small_rest indent room (map token tokens ++ more)) (found tokens) more
unfolding found
tokens_found indent room [] more dark begins = record { left = room; are = refl }
tokens_found indent room (bytes ∷ tokens) more dark begins =
    let others = map token tokens ++ more in
    let first = token_found indent room bytes others dark.0 (begins_with tokens more begins) in
    let next = tokens_found indent first.left tokens more dark.1 begins in
    record {
      left = next.left;
      are =
          first.are ∙ ap (λ (ts : List (List ℕ)). found (bytes ∷ []) ++ ts) next.are
          ∙ sym (append_assoc (found (bytes ∷ [])) (found tokens) _)
          ∙ ap (λ (ts : List (List ℕ)). ts ++ tokens_in (small_rest indent next.left more))
          (sym (found-cons bytes tokens));
    }

-- ==== letters

-- nothing stands behind the last piece
end_found : (indent room : ℕ) → tokens_in (small_rest indent room []) ≡ []
end_found indent room =
    elim (cases_lt 2 room) [
      | inl fits ↦
          ap tokens_in (end_fits indent room fits) ∙ tokens_in-space 32 [] refl ∙ tokens_in-nil
      | inr short ↦
          ap tokens_in (end_breaks indent room short ∙ sym (append-nil (line_start indent)))
          ∙ tokens_in-start indent [] ∙ tokens_in-nil
    ]

-- the tokens of a text are pieces of these letters
record Spells (text letters : List ℕ) : Type 0 where
  pieces : List (List ℕ)
  are : tokens_in text ≡ pieces
  joined : flat_map (λ piece. piece) pieces ≡ letters

one_more : (byte : ℕ) (pieces : List (List ℕ)) (letters : List ℕ) → 0 < length letters
    → flat_map (λ piece. piece) pieces ≡ letters
    → flat_map (λ piece. piece) (onto_first byte pieces) ≡ byte ∷ letters
one_more byte [] letters some is = absurd (omega (arith, some, ap length is))
one_more byte (piece ∷ pieces) letters some is = ap (λ (t : List ℕ). byte ∷ t) is

letters_found : (indent room byte : ℕ) (letters : List ℕ) → is_space byte ≡ false
    → LacksWhiteSpace letters
    → Spells (byte ∷ small_rest indent room (map letter letters)) (byte ∷ letters)
letters_found indent room byte [] dark others =
    let starts = rest_white indent room [] tt in
    record {
      pieces = (byte ∷ []) ∷ [];
      are =
          ap (λ (t : List ℕ). tokens_in (byte ∷ t)) starts.is
          ∙ tokens_in-end byte starts.byte starts.after dark starts.white
          ∙ ap (λ (ts : List (List ℕ)). (byte ∷ []) ∷ ts)
          (ap tokens_in (sym starts.is) ∙ end_found indent room);
      joined = refl;
    }
letters_found indent room byte (next ∷ letters) dark others =
    let more = map letter letters in
    elim (cases_lt room 1) [
      | inl long ↦
          let left = small_room indent 1 in
          let rest = letters_found indent left next letters others.0 others.1 in
          let begun = next ∷ small_rest indent left more in
          record {
            pieces = (byte ∷ []) ∷ rest.pieces;
            are =
                ap (λ (t : List ℕ). tokens_in (byte ∷ t))
                (piece_breaks indent room (letter next) more long
                ∙ append_assoc (line_start indent) (next ∷ []) (small_rest indent left more))
                ∙ tokens_in-end byte 10 (replicate indent 32 ++ begun) dark refl
                ∙ ap (λ (ts : List (List ℕ)). (byte ∷ []) ∷ ts)
                (tokens_in-start indent begun ∙ rest.are);
            joined = ap (λ (t : List ℕ). byte ∷ t) rest.joined;
          }
      | inr fits ↦
          let left = room - 1 in
          let rest = letters_found indent left next letters others.0 others.1 in
          record {
            pieces = onto_first byte rest.pieces;
            are =
                ap (λ (t : List ℕ). tokens_in (byte ∷ t))
                (piece_fits indent room (letter next) more fits)
                ∙ tokens_in-on byte next (small_rest indent left more) dark others.0
                ∙ ap (onto_first byte) rest.are;
            joined = one_more byte rest.pieces (next ∷ letters) (omega arith) rest.joined;
          }
    ]

-- all the letters of a proof
block_found : (indent room : ℕ) (letters : List ℕ) → LacksWhiteSpace letters
    → Spells (small_rest indent room (letter_pieces letters)) letters
block_found indent room [] dark =
    record { pieces = []; are = end_found indent room; joined = refl }
block_found indent room (first ∷ letters) dark =
    let more = map letter letters in
    let piece = token (first ∷ []) in
    elim (cases_lt room 2) [
      | inl long ↦
          let left = small_room indent 1 in
          let rest = letters_found indent left first letters dark.0 dark.1 in
          record {
            pieces = rest.pieces;
            are =
                ap tokens_in (piece_breaks indent room piece more long
                ∙ append_assoc (line_start indent) (first ∷ []) (small_rest indent left more))
                ∙ tokens_in-start indent (first ∷ small_rest indent left more) ∙ rest.are;
            joined = rest.joined;
          }
      | inr fits ↦
          let left = room - 2 in
          let rest = letters_found indent left first letters dark.0 dark.1 in
          record {
            pieces = rest.pieces;
            are =
                ap tokens_in (piece_fits indent room piece more fits)
                ∙ tokens_in-space 32 (first ∷ small_rest indent left more) refl ∙ rest.are;
            joined = rest.joined;
          }
    ]

-- ==== a whole proof

letters_begin_with : (letters : List ℕ) → BeginsWithToken (letter_pieces letters)
letters_begin_with [] = tt
letters_begin_with (first ∷ letters) = tt

closed : (labels : List (List ℕ)) → AllByRecursion IsOneToken labels
    → AllByRecursion IsOneToken (labels ++ (41 ∷ []) ∷ [])
closed labels are =
    all_append IsOneToken labels ((41 ∷ []) ∷ []) are ((omega arith, (refl, tt)), tt)

-- the labels between the parentheses are found, and an empty one that stands for them is not
list_found : (labels : List (List ℕ)) → AllByRecursion IsOneToken labels
    → found (in_parentheses (shown labels)) ≡ in_parentheses labels
unfolding found
list_found [] are = refl
list_found (label ∷ labels) are =
    let list = label ∷ labels in
    found_all (in_parentheses list) ((omega arith, (refl, tt)), closed list are)

dark_tokens : (tokens : List (List ℕ)) → AllByRecursion IsOneToken tokens
    → AllByRecursion LacksWhiteSpace tokens
dark_tokens [] are = tt
dark_tokens (bytes ∷ tokens) are = (are.0.1, dark_tokens tokens are.1)

dark_list : (labels : List (List ℕ)) → AllByRecursion IsOneToken labels
    → AllByRecursion LacksWhiteSpace (in_parentheses (shown labels))
dark_list [] are = ((refl, tt), (tt, ((refl, tt), tt)))
dark_list (label ∷ labels) are =
    let list = (label ∷ labels) ++ (41 ∷ []) ∷ [] in
    ((refl, tt), dark_tokens list (closed (label ∷ labels) are))

pub small_read_back : (indent : ℕ) (labels : List (List ℕ)) (letters text : List ℕ)
    → AllByRecursion IsOneToken labels → LacksWhiteSpace letters
    → SmallLaidOut indent labels letters text
    → (pieces : List (List ℕ)) × (tokens_in text ≡ in_parentheses labels ++ pieces)
    × (flat_map (λ piece. piece) pieces ≡ letters)
small_read_back indent labels letters text are dark laid =
    let list = in_parentheses (shown labels) in
    let read = tokens_found indent 0 list (letter_pieces letters) (dark_list labels are)
    (letters_begin_with letters) in
    let block = block_found indent read.left letters dark in
    let rest = small_rest indent read.left (letter_pieces letters) in (
      block.pieces,
      ap tokens_in (small_text indent labels letters text laid) ∙ read.are
          ∙ ap (λ (ts : List (List ℕ)). ts ++ tokens_in rest) (list_found labels are)
          ∙ ap (λ (ts : List (List ℕ)). in_parentheses labels ++ ts) block.are,
      block.joined,
    )
