-- The lines of a proof as the files of real libraries have them: there are some, and only one text
-- of them. `lay_out_small` rests on it.
use Rattle.std.proofs.Common.{◌≡◌, ℕ, ◌+◌, ◌-◌, ◌<◌, ◌≤◌, inl, inr, List, []}
use Rattle.std.proofs.Common.{◌∷◌, ◌++◌, length, map, refl, sym, ap, subst, ◌∙◌, arith, flat_map}
use Rattle.std.proofs.Common.{append_assoc, append-nil, length-append, lt-ltb, le-ltb}
use Rattle.std.proofs.Common.{replicate}
use Rattle.std.specs.List.{AllByRecursion}
use Rattle.std.proofs.lemmas.Bool.{cases_lt}
use Rattle.std.proofs.lemmas.Grind.{flat_map-append}
use Rattle.std.proofs.lemmas.List.{append_cancel_right, length-replicate, map-append}
use Rattle.mm_code.specs.Layout.{in_parentheses}
use Rattle.mm_code.specs.SmallLayout.{LinePiece, token, letter, bytes_of, behind, shown}
use Rattle.mm_code.specs.SmallLayout.{proof_end, small_line, side_by_side, IsSmallLine}
use Rattle.mm_code.specs.SmallLayout.{letter_pieces, IsFullBefore, AreFilled, SmallLaidOut}
use Rattle.mm_code.specs.Mirror.SmallLines.{small_rest, small_room, line_start}
use Rattle.mm_code.proofs.GreedyLines.{one_greedy_cut}

-- ==== one step of `small_rest`

pub piece_fits : (indent room : ℕ) (piece : LinePiece) (pieces : List LinePiece)
    → length (behind piece) ≤ room → small_rest indent room (piece ∷ pieces)
    ≡ behind piece ++ small_rest indent (room - length (behind piece)) pieces
unfolding small_rest
piece_fits indent room piece pieces fits = rw (le-ltb room (length (behind piece)) fits) refl

pub piece_breaks : (indent room : ℕ) (piece : LinePiece) (pieces : List LinePiece)
    → room < length (behind piece) → small_rest indent room (piece ∷ pieces)
    ≡ (line_start indent ++ bytes_of piece)
    ++ small_rest indent (small_room indent (length (bytes_of piece))) pieces
unfolding small_rest
piece_breaks indent room piece pieces long = rw (lt-ltb room (length (behind piece)) long) refl

pub end_fits : (indent room : ℕ) → 2 < room → small_rest indent room [] ≡ 32 ∷ []
unfolding small_rest
end_fits indent room fits = rw (lt-ltb 2 room fits) refl

pub end_breaks : (indent room : ℕ) → room ≤ 2 → small_rest indent room [] ≡ line_start indent
unfolding small_rest
end_breaks indent room short = rw (le-ltb 2 room short) refl

-- ==== a line with one more piece

some_behind : (piece : LinePiece) → 1 ≤ length (behind piece)
some_behind (token bytes) = omega arith
some_behind (letter byte) = omega arith

line-push : (indent : ℕ) (line : List LinePiece) (piece : LinePiece) → 0 < length line
    → small_line indent (line ++ piece ∷ []) ≡ small_line indent line ++ behind piece
line-push indent [] piece some = absurd (omega (arith, some))
line-push indent (first ∷ others) piece some =
    rw (flat_map-append behind others (piece ∷ []), append-nil (behind piece))
    (simp append_assoc)

width-push : (indent : ℕ) (line : List LinePiece) (piece : LinePiece) → 0 < length line
    → length (small_line indent (line ++ piece ∷ []))
    ≡ length (small_line indent line) + length (behind piece)
width-push indent line piece some =
    ap length (line-push indent line piece some)
    ∙ length-append (small_line indent line) (behind piece)

line-one : (indent : ℕ) (piece : LinePiece)
    → 10 ∷ small_line indent (piece ∷ []) ≡ line_start indent ++ bytes_of piece
line-one indent piece = rw (append-nil (bytes_of piece)) refl

width-one : (indent : ℕ) (piece : LinePiece)
    → length (small_line indent (piece ∷ [])) ≡ indent + length (bytes_of piece)
width-one indent piece =
    ap length (ap (λ (t : List ℕ). replicate indent 32 ++ t) (append-nil (bytes_of piece)))
    ∙ length-append (replicate indent 32) (bytes_of piece)
    ∙ ap (λ (n : ℕ). n + length (bytes_of piece)) (length-replicate indent 32)

pub line_length : (indent : ℕ) (line : List LinePiece) → IsSmallLine indent line → 0 < length line
line_length indent line (inl one) = omega (arith, one)
line_length indent line (inr more) = omega (arith, more.0)

-- ==== there are lines

-- pieces in lines, whatever they are
record InLines (indent : ℕ) (pieces : List LinePiece) (text : List ℕ) : Type 0 where
  lines : List (List LinePiece)
  in_order : flat_map (λ line. line) lines ≡ pieces
  each : AllByRecursion (IsSmallLine indent) lines
  filled : AreFilled indent lines
  printed : text ≡ flat_map (λ line. 10 ∷ small_line indent line) lines

lined-cons : (indent : ℕ) (line pieces : List LinePiece) (text : List ℕ) → IsSmallLine indent line
    → IsFullBefore indent line pieces → InLines indent pieces text
    → InLines indent (line ++ pieces) ((10 ∷ small_line indent line) ++ text)
lined-cons indent line pieces text is full laid = record {
  lines = line ∷ laid.lines;
  in_order = ap (λ (ps : List LinePiece). line ++ ps) laid.in_order;
  each = (is, laid.each);
  filled = (subst (IsFullBefore indent line) (sym laid.in_order) full, laid.filled);
  printed = ap (λ (t : List ℕ). (10 ∷ small_line indent line) ++ t) laid.printed;
}

-- the last line
lined-last : (indent : ℕ) (line : List LinePiece) → IsSmallLine indent line
    → InLines indent line (10 ∷ small_line indent line)
lined-last indent line is = record {
  lines = line ∷ [];
  in_order = append-nil line;
  each = (is, tt);
  filled = (tt, tt);
  printed = sym (append-nil (10 ∷ small_line indent line));
}

-- a piece on the open line
grown_line : (indent room : ℕ) (line : List LinePiece) (piece : LinePiece) → IsSmallLine indent line
    → room ≡ 79 - length (small_line indent line) → length (behind piece) ≤ room
    → IsSmallLine indent (line ++ piece ∷ [])
grown_line indent room line piece is left fits =
    let some = line_length indent line is in
    inr (
      omega (arith, some, length-append line (piece ∷ [])),
      omega (arith, left, fits, some_behind piece, width-push indent line piece some),
    )

-- a piece that the open line has no room for
full_line : (indent room : ℕ) (line : List LinePiece) (piece : LinePiece) → IsSmallLine indent line
    → room ≡ 79 - length (small_line indent line) → room < length (behind piece)
    → 79 < length (small_line indent (line ++ piece ∷ []))
full_line indent room line piece is left long =
    omega (arith, left, long, width-push indent line piece (line_length indent line is))

-- ---- what follows a line, as lines

-- a piece on the line
on_line : (indent room : ℕ) (line : List LinePiece) (piece : LinePiece) (more : List LinePiece)
    (end : List ℕ) → 0 < length line → length (behind piece) ≤ room
    → (10 ∷ small_line indent (line ++ piece ∷ []))
    ++ (small_rest indent (room - length (behind piece)) more ++ end)
    ≡ (10 ∷ small_line indent line) ++ (small_rest indent room (piece ∷ more) ++ end)
on_line indent room line piece more end some fits =
    let rest = small_rest indent (room - length (behind piece)) more in
    ap (λ (t : List ℕ). (10 ∷ t) ++ (rest ++ end)) (line-push indent line piece some)
    ∙ append_assoc (10 ∷ small_line indent line) (behind piece) (rest ++ end)
    ∙ ap (λ (t : List ℕ). (10 ∷ small_line indent line) ++ t)
    (sym (append_assoc (behind piece) rest end)
    ∙ ap (λ (t : List ℕ). t ++ end) (sym (piece_fits indent room piece more fits)))

-- a piece on the next line
on_next : (indent room : ℕ) (piece : LinePiece) (more : List LinePiece) (end : List ℕ)
    → room < length (behind piece)
    → (10 ∷ small_line indent (piece ∷ []))
    ++ (small_rest indent (small_room indent (length (bytes_of piece))) more ++ end)
    ≡ small_rest indent room (piece ∷ more) ++ end
on_next indent room piece more end long =
    let rest = small_rest indent (small_room indent (length (bytes_of piece))) more in
    ap (λ (t : List ℕ). t ++ (rest ++ end)) (line-one indent piece)
    ∙ sym (append_assoc (line_start indent ++ bytes_of piece) rest end)
    ∙ ap (λ (t : List ℕ). t ++ end) (sym (piece_breaks indent room piece more long))

-- `$.` on the line
end_on_line : (indent room : ℕ) (line : List LinePiece) → 0 < length line → 2 < room
    → 10 ∷ small_line indent (line ++ token proof_end ∷ [])
    ≡ (10 ∷ small_line indent line) ++ (small_rest indent room [] ++ proof_end)
end_on_line indent room line some fits =
    ap (λ (t : List ℕ). 10 ∷ t) (line-push indent line (token proof_end) some)
    ∙ ap (λ (t : List ℕ). (10 ∷ small_line indent line) ++ (t ++ proof_end))
    (sym (end_fits indent room fits))

-- `$.` on the next line
end_on_next : (indent room : ℕ) → room ≤ 2
    → 10 ∷ small_line indent (token proof_end ∷ []) ≡ small_rest indent room [] ++ proof_end
end_on_next indent room short =
    line-one indent (token proof_end)
    ∙ ap (λ (t : List ℕ). t ++ proof_end) (sym (end_breaks indent room short))

-- The open line holds some pieces, and its room is what it lacks of 79 bytes.
lined_from : (indent : ℕ) (more line : List LinePiece) (room : ℕ) → IsSmallLine indent line
    → room ≡ 79 - length (small_line indent line)
    → InLines indent (line ++ (more ++ token proof_end ∷ []))
    ((10 ∷ small_line indent line) ++ (small_rest indent room more ++ proof_end))
lined_from indent [] line room is left =
    let ending = token proof_end in
    let whole = line ++ ending ∷ [] in
    let some = line_length indent line is in
    elim (cases_lt 2 room) [
      | inl fits ↦
          let grown = grown_line indent room line ending is left (omega (arith, fits)) in
          subst (InLines indent whole) (end_on_line indent room line some fits)
          (lined-last indent whole grown)
      | inr short ↦
          let full = full_line indent room line ending is left (omega (arith, short)) in
          let last = lined-last indent (ending ∷ []) (inl refl) in
          subst (λ (t : List ℕ). InLines indent whole ((10 ∷ small_line indent line) ++ t))
          (end_on_next indent room short) (lined-cons indent line (ending ∷ []) _ is full last)
    ]
lined_from indent (piece ∷ more) line room is left =
    let end = token proof_end ∷ [] in
    let whole = line ++ (piece ∷ (more ++ end)) in
    let some = line_length indent line is in
    elim (cases_lt room (length (behind piece))) [
      | inl long ↦
          let next = small_room indent (length (bytes_of piece)) in
          let width = width-one indent piece in
          let laid = lined_from indent more (piece ∷ []) next (inl refl) (omega (arith, width)) in
          let full = full_line indent room line piece is left long in
          subst (λ (t : List ℕ). InLines indent whole ((10 ∷ small_line indent line) ++ t))
          (on_next indent room piece more proof_end long)
          (lined-cons indent line (piece ∷ (more ++ end)) _ is full laid)
      | inr fits ↦
          let next = room - length (behind piece) in
          let grown = grown_line indent room line piece is left fits in
          let width = width-push indent line piece some in
          let laid = lined_from indent more (line ++ piece ∷ []) next grown
          (omega (arith, left, fits, some_behind piece, width)) in
          let text = (10 ∷ small_line indent (line ++ piece ∷ []))
          ++ (small_rest indent next more ++ proof_end) in
          subst (InLines indent whole) (on_line indent room line piece more proof_end some fits)
          (subst (λ (ps : List LinePiece). InLines indent ps text)
          (append_assoc line (piece ∷ []) (more ++ end)) laid)
    ]

-- the lines that a first piece begins
lined_begun : (indent : ℕ) (first : LinePiece) (more : List LinePiece)
    → InLines indent (first ∷ (more ++ token proof_end ∷ []))
    (small_rest indent 0 (first ∷ more) ++ proof_end)
lined_begun indent first more =
    let room = small_room indent (length (bytes_of first)) in
    let width = width-one indent first in
    subst (InLines indent (first ∷ (more ++ token proof_end ∷ [])))
    (on_next indent 0 first more proof_end (some_behind first))
    (lined_from indent more (first ∷ []) room (inl refl) (omega (arith, width)))

-- ---- a whole proof

-- its pieces but `$.`
abbrev pub pieces_before_end : List (List ℕ) → List ℕ → List LinePiece
pieces_before_end labels letters =
    map token (in_parentheses (shown labels)) ++ letter_pieces letters

pub small_laid_out : (indent : ℕ) (labels : List (List ℕ)) (letters text : List ℕ)
    → text ≡ small_rest indent 0 (pieces_before_end labels letters)
    → SmallLaidOut indent labels letters text
small_laid_out indent labels letters text is =
    let more = map token (shown labels ++ (41 ∷ []) ∷ []) ++ letter_pieces letters in
    let begun = lined_begun indent (token (40 ∷ [])) more in
    record {
      lines = begun.lines;
      in_order = begun.in_order;
      each = begun.each;
      filled = begun.filled;
      printed = ap (λ (t : List ℕ). t ++ proof_end) is ∙ begun.printed;
    }

-- ==== there is one text

side-grows : (a b : List LinePiece) → length (side_by_side a) ≤ length (side_by_side (a ++ b))
side-grows [] b = omega arith
side-grows (first ∷ others) b =
    omega (
      arith,
      length-append (bytes_of first) (flat_map behind others),
      length-append (bytes_of first) (flat_map behind (others ++ b)),
      ap length (flat_map-append behind others b),
      length-append (flat_map behind others) (flat_map behind b),
    )

width-grows : (indent : ℕ) (a b : List LinePiece)
    → length (small_line indent a) ≤ length (small_line indent (a ++ b))
width-grows indent a b =
    omega (
      arith,
      side-grows a b,
      length-append (replicate indent 32) (side_by_side a),
      length-append (replicate indent 32) (side_by_side (a ++ b)),
    )

pub one_small_text : (indent : ℕ) (labels : List (List ℕ)) (letters a b : List ℕ)
    → SmallLaidOut indent labels letters a → SmallLaidOut indent labels letters b → a ≡ b
one_small_text indent labels letters a b p q =
    let wide = λ (pieces : List LinePiece). length (small_line indent pieces) in
    let lines = one_greedy_cut wide (width-grows indent) p.lines q.lines p.each q.each p.filled
    q.filled (p.in_order ∙ sym q.in_order) in
    append_cancel_right a b proof_end
    (p.printed
    ∙ ap (λ (ls : List (List LinePiece)). flat_map (λ line. 10 ∷ small_line indent line) ls) lines
    ∙ sym q.printed)

-- so it is what the code lays out
pub small_text : (indent : ℕ) (labels : List (List ℕ)) (letters text : List ℕ)
    → SmallLaidOut indent labels letters text
    → text ≡ small_rest indent 0 (pieces_before_end labels letters)
small_text indent labels letters text laid =
    one_small_text indent labels letters text _ laid
    (small_laid_out indent labels letters _ refl)

-- ==== the steps of the code

-- a token on the line
pub token_added : (indent room : ℕ) (bytes : List ℕ) (more : List LinePiece) → length bytes < room
    → small_rest indent room (token bytes ∷ more)
    ≡ (32 ∷ bytes) ++ small_rest indent (room - length bytes - 1) more
token_added indent room bytes more fits =
    piece_fits indent room (token bytes) more (omega (arith, fits))
    ∙ ap (λ (left : ℕ). (32 ∷ bytes) ++ small_rest indent left more) (omega arith)

-- or on the next line
pub token_begins : (indent room left : ℕ) (old begun new bytes : List ℕ) (more : List LinePiece)
    → room ≤ length bytes → begun ≡ old ++ line_start indent → new ≡ begun ++ bytes
    → left ≡ small_room indent (length bytes)
    → new ++ small_rest indent left more ≡ old ++ small_rest indent room (token bytes ∷ more)
token_begins indent room left old begun new bytes more long was is after =
    rw (is, was, after, piece_breaks indent room (token bytes) more (omega (arith, long)))
    (simp append_assoc)

-- further letters on the line
pub letters_added : (indent room : ℕ) (letters : List ℕ) (more : List LinePiece)
    → length letters ≤ room → small_rest indent room (map letter letters ++ more)
    ≡ letters ++ small_rest indent (room - length letters) more
letters_added indent room [] more fits =
    ap (λ (left : ℕ). small_rest indent left more) (omega arith)
letters_added indent room (byte ∷ letters) more fits =
    piece_fits indent room (letter byte) (map letter letters ++ more) (omega (arith, fits))
    ∙ ap (λ (t : List ℕ). byte ∷ t)
    (letters_added indent (room - 1) letters more (omega (arith, fits))
    ∙ ap (λ (left : ℕ). letters ++ small_rest indent left more) (omega arith))

-- or on the next line, from its beginning on
pub letters_begin : (indent : ℕ) (letters : List ℕ) (more : List LinePiece) → indent ≤ 39
    → 0 < length letters → small_rest indent 0 (map letter letters ++ more)
    ≡ line_start indent ++ small_rest indent (small_room indent 0) (map letter letters ++ more)
letters_begin indent [] more few some = absurd (omega (arith, some))
letters_begin indent (byte ∷ letters) more few some =
    let rest = map letter letters ++ more in
    piece_breaks indent 0 (letter byte) rest (omega arith)
    ∙ append_assoc (line_start indent) (byte ∷ []) _
    ∙ ap (λ (t : List ℕ). line_start indent ++ t)
    (ap (λ (left : ℕ). byte ∷ small_rest indent left rest) (omega arith)
    ∙ sym (piece_fits indent (small_room indent 0) (letter byte) rest (omega (arith, few))))

-- the letters of one round of the loop, where a line is begun or not
pub line_begun : (indent left next : ℕ) (text begun letters : List ℕ) (more : List LinePiece)
    → indent ≤ 39 → 0 < length letters → left ≡ 0 → next ≡ small_room indent 0
    → begun ≡ text ++ line_start indent
    → begun ++ small_rest indent next (map letter letters ++ more)
    ≡ text ++ small_rest indent left (map letter letters ++ more)
line_begun indent left next text begun letters more few some none after is =
    rw (is, after, none, letters_begin indent letters more few some)
    (append_assoc text (line_start indent) _)

pub letters_put : (indent left : ℕ) (before new front back letters : List ℕ) (more : List LinePiece)
    → front ++ back ≡ letters → length front ≤ left → new ≡ before ++ front
    → new ++ small_rest indent (left - length front) (map letter back ++ more)
    ≡ before ++ small_rest indent left (map letter letters ++ more)
letters_put indent left before new front back letters more whole fits is =
    rw (
      is,
      ← whole,
      map-append letter front back,
      append_assoc (map letter front) (map letter back) more,
      letters_added indent left front (map letter back ++ more) fits,
    )
    (append_assoc before front _)

-- the pieces that are put in turn are those of the proof
pub pieces_joined : (labels : List (List ℕ)) (letters : List ℕ)
    → token (40 ∷ [])
    ∷ (map token (shown labels) ++ (token (41 ∷ []) ∷ (letter_pieces letters ++ [])))
    ≡ pieces_before_end labels letters
pieces_joined labels letters =
    rw (append-nil (letter_pieces letters), map-append token (shown labels) ((41 ∷ []) ∷ []))
    (ap (λ (ps : List LinePiece). token (40 ∷ []) ∷ ps)
    (sym (append_assoc (map token (shown labels)) (token (41 ∷ []) ∷ []) (letter_pieces letters))))
