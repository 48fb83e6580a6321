-- How what is laid out as in the files of real libraries begins and ends: with a line feed, the
-- indent and the `(` of the list; and in white space.
use Rattle.std.proofs.Common.{◌≡◌, ℕ, zero, suc, ◌-◌, inl, inr, List, [], ◌∷◌, ◌++◌, true}
use Rattle.std.proofs.Common.{length, map, refl, sym, ap, ◌∙◌, arith, append_assoc, replicate}
use Rattle.std.proofs.lemmas.Bool.{cases_lt}
use Rattle.mm_base.specs.Token.{is_space}
use Rattle.mm_code.specs.Layout.{in_parentheses}
use Rattle.mm_code.specs.SmallLayout.{LinePiece, token, bytes_of, behind, letter_pieces, shown}
use Rattle.mm_code.specs.SmallLayout.{SmallLaidOut}
use Rattle.mm_code.specs.Mirror.SmallLines.{small_rest, small_room, line_start}
use Rattle.mm_code.proofs.SmallLines.{piece_fits, piece_breaks, end_fits, end_breaks, small_text}

-- ---- the beginning

-- a line feed, so many spaces, and `(`
pub record BeginsList (indent : ℕ) (text : List ℕ) : Type 0 where
  pub more : List ℕ
  pub is : text ≡ 10 ∷ (replicate indent 32 ++ 40 ∷ more)

pub small_begins : (indent : ℕ) (labels : List (List ℕ)) (letters text : List ℕ)
    → SmallLaidOut indent labels letters text → BeginsList indent text
small_begins indent labels letters text laid =
    let opening = token (40 ∷ []) in
    let others = map token (shown labels ++ (41 ∷ []) ∷ []) ++ letter_pieces letters in
    let rest = small_rest indent (small_room indent 1) others in
    record {
      more = rest;
      is =
          small_text indent labels letters text laid
          ∙ piece_breaks indent 0 opening others (omega arith)
          ∙ append_assoc (line_start indent) (40 ∷ []) rest;
    }

-- ---- the end

-- the last byte is white space
pub record EndsWhite (text : List ℕ) : Type 0 where
  pub inner : List ℕ
  pub last : ℕ
  pub is : text ≡ inner ++ last ∷ []
  pub white : is_space last ≡ true

ends_behind : (prefix text : List ℕ) → EndsWhite text → EndsWhite (prefix ++ text)
ends_behind prefix text e = record {
  inner = prefix ++ e.inner;
  last = e.last;
  is = ap (λ (t : List ℕ). prefix ++ t) e.is ∙ sym (append_assoc prefix e.inner (e.last ∷ []));
  white = e.white;
}

spaces_end : (first count : ℕ) → is_space first ≡ true → EndsWhite (first ∷ replicate count 32)
spaces_end first zero white = record { inner = []; last = first; is = refl; white = white }
spaces_end first (suc count) white =
    ends_behind (first ∷ []) (32 ∷ replicate count 32) (spaces_end 32 count refl)

rest_ends : (indent room : ℕ) (pieces : List LinePiece) → EndsWhite (small_rest indent room pieces)
rest_ends indent room [] =
    elim (cases_lt 2 room) [
      | inl fits ↦
          record { inner = []; last = 32; is = end_fits indent room fits; white = refl }
      | inr short ↦ rw (end_breaks indent room short) (spaces_end 10 indent refl)
    ]
rest_ends indent room (piece ∷ pieces) =
    elim (cases_lt room (length (behind piece))) [
      | inl long ↦
          let left = small_room indent (length (bytes_of piece)) in
          rw (piece_breaks indent room piece pieces long)
          (ends_behind (line_start indent ++ bytes_of piece) _ (rest_ends indent left pieces))
      | inr fits ↦
          let left = room - length (behind piece) in
          rw (piece_fits indent room piece pieces fits)
          (ends_behind (behind piece) _ (rest_ends indent left pieces))
    ]

pub small_ends : (indent : ℕ) (labels : List (List ℕ)) (letters text : List ℕ)
    → SmallLaidOut indent labels letters text → EndsWhite text
small_ends indent labels letters text laid =
    rw (small_text indent labels letters text laid)
    (rest_ends indent 0 (map token (in_parentheses (shown labels)) ++ letter_pieces letters))
