-- The lines of tokens and of letters, one more at a time: tokens have one layout at most, as have
-- letters.
use Rattle.std.proofs.Common.{◌≡◌, ℕ, ◌+◌, ◌-◌, ◌<◌, ◌≤◌, inl, inr, List, [], ◌∷◌, ◌++◌, length}
use Rattle.std.proofs.Common.{Result, Ok, Err, refl, sym, ap, subst, ◌∙◌, append_assoc, arith, ◌⊎◌}
use Rattle.std.proofs.Common.{min, take, drop, suc, IfOk, OnOk, flat_map}
use Rattle.std.proofs.Common.{lt-ltb, le-ltb, length-append, append-nil, length-take, length-drop}
use Rattle.std.proofs.Common.{take-append-drop}
use Rattle.std.specs.List.{join_with_byte, AllByRecursion}
use Rattle.std.proofs.lemmas.Bool.{cases_lt}
use Rattle.std.proofs.lemmas.List.{nil_from_length}
use Rattle.mm_code.specs.Layout.{indent, token_line, width, IsLine, IsFull, LaidOut, AreLetterLines}
use Rattle.mm_code.specs.Layout.{LettersLaidOut, in_parentheses, CompressedLaidOut, IsGreedy}
use Rattle.mm_code.proofs.GreedyLines.{prefixes, same, longer, shorter, no_items}
use Rattle.mm_code.proofs.GreedyLines.{one_greedy_cut}
use Rattle.mm_code.specs.Mirror.Lines.{rest_of, room_after, AppendsLetters}

-- ==== one step of `rest_of`, and the lines that it makes

pub rest_fits : (room : ℕ) (token : List ℕ) (tokens : List (List ℕ)) → length token < room → rest_of room (token ∷ tokens) ≡ (32 ∷ token) ++ rest_of (room - length token - 1) tokens
unfolding rest_of
rest_fits room token tokens lt = rw (lt-ltb (length token) room lt) refl

rest_breaks : (room : ℕ) (token : List ℕ) (tokens : List (List ℕ)) → room ≤ length token → rest_of room (token ∷ tokens) ≡ ((10 ∷ indent) ++ token) ++ rest_of (room_after (length token)) tokens
unfolding rest_of
rest_breaks room token tokens le = rw (le-ltb (length token) room le) refl

rest_ends : (room : ℕ) → rest_of room [] ≡ 10 ∷ []
unfolding rest_of
rest_ends room = refl

-- ---- the steps of the code

pub begun_adds : {E : Type 0} (result : Result ℕ E) (old between new token : List ℕ) (room : ℕ) → between ≡ old ++ 10 ∷ [] → OnOk result (new ≡ between ++ (indent ++ token))
    → IfOk result (λ left. left ≡ room_after (length token)) → room ≤ length token → IfOk result (λ left. (more : List (List ℕ)) → new ++ rest_of left more ≡ old ++ rest_of room (token ∷ more))
begun_adds (Ok left) old between new token room was is after le = λ more.
    rw (after, is, was, rest_breaks room token more le) (simp append_assoc)
begun_adds (Err fault) old between new token room was is after le = tt

-- ---- a line with one more token

join-push : (first : List ℕ) (line : List (List ℕ)) (token : List ℕ) → join_with_byte 32 (first ∷ (line ++ token ∷ [])) ≡ join_with_byte 32 (first ∷ line) ++ (32 ∷ token)
join-push first [] token = refl
join-push first (next ∷ line) token =
    ap (λ (t : List ℕ). first ++ (32 ∷ t)) (join-push next line token) ∙ sym (append_assoc first (32 ∷ join_with_byte 32 (next ∷ line)) (32 ∷ token))

token_line-push : (line : List (List ℕ)) (token : List ℕ) → 0 < length line → token_line (line ++ token ∷ []) ≡ token_line line ++ (32 ∷ token)
token_line-push [] token lt = absurd (omega arith)
token_line-push (first ∷ line) token lt = ap (λ (t : List ℕ). indent ++ t) (join-push first line token) ∙ sym (append_assoc indent (join_with_byte 32 (first ∷ line)) (32 ∷ token))

width-push : (line : List (List ℕ)) (token : List ℕ) → 0 < length line → width (line ++ token ∷ []) ≡ width line + (1 + length token)
width-push line token lt = ap length (token_line-push line token lt) ∙ length-append (token_line line) (32 ∷ token) ∙ omega arith

-- a line has some token
pub line_length : (line : List (List ℕ)) → IsLine line → 0 < length line
line_length line (inl one) = omega (arith, one)
line_length line (inr more) = omega (arith, more.0)

-- ---- the lines that are made

-- one more line before those of a text
laid-cons : (line tokens : List (List ℕ)) (text : List ℕ) → IsLine line → IsFull line tokens → LaidOut tokens text → LaidOut (line ++ tokens) ((token_line line ++ 10 ∷ []) ++ text)
laid-cons line tokens text is full laid = record {
  lines = line ∷ laid.lines;
  in_order = ap (λ (ts : List (List ℕ)). line ++ ts) laid.in_order;
  each = (is, laid.each);
  greedy = (subst (IsFull line) (sym laid.in_order) full, laid.greedy);
  printed = ap (λ (t : List ℕ). (token_line line ++ 10 ∷ []) ++ t) laid.printed;
}

laid-nil : LaidOut [] []
laid-nil = record { lines = []; in_order = refl; each = tt; greedy = tt; printed = refl }

-- The open line holds some tokens, and its room is what it lacks of 79 bytes.
laid_out_from : (more line : List (List ℕ)) (room : ℕ) → IsLine line → room ≡ 79 - width line → LaidOut (line ++ more) (token_line line ++ rest_of room more)
laid_out_from [] line room is left =
    rw (rest_ends room, ← append-nil (token_line line ++ 10 ∷ []))
    (laid-cons line [] [] is tt laid-nil)
laid_out_from (token ∷ more) line room is left =
    let some = line_length line is in
    let wider = width-push line token some in
    elim (cases_lt (length token) room) [
      | inl fits ↦
          let grown = line ++ token ∷ [] in
          let is_line : IsLine grown = inr (omega (arith, length-append line (token ∷ [])), omega (arith, wider)) in
          let rest = rest_of (room - length token - 1) more in
          let laid = laid_out_from more grown (room - length token - 1) is_line (omega (arith, wider)) in
          let text_same : token_line grown ++ rest ≡ token_line line ++ rest_of room (token ∷ more) =
          ap (λ (t : List ℕ). t ++ rest) (token_line-push line token some) ∙ append_assoc (token_line line) (32 ∷ token) rest
          ∙ ap (λ (t : List ℕ). token_line line ++ t) (sym (rest_fits room token more fits)) in
          subst (LaidOut (line ++ token ∷ more)) text_same (rw (append_assoc line) at laid)
      | inr breaks ↦
          let laid = laid_out_from more (token ∷ []) (room_after (length token)) (inl refl) (omega arith) in
          let full : IsFull line (token ∷ more) = omega (arith, wider) in
          rw (rest_breaks room token more breaks)
          (rw (append_assoc (token_line line)) at (laid-cons line (token ∷ more) _ is full laid))
    ]

-- the lines that a first token begins
laid_out_begun : (token : List ℕ) (more : List (List ℕ)) → LaidOut (token ∷ more) ((indent ++ token) ++ rest_of (room_after (length token)) more)
laid_out_begun token more = laid_out_from more (token ∷ []) (room_after (length token)) (inl refl) (omega arith)

-- ==== the lines of letters, and the whole layouts

pub letters_laid-nil : LettersLaidOut [] []
letters_laid-nil = record { lines = []; in_order = refl; each = tt; printed = refl }

-- a line of letters has some, and those behind it are lines of letters
pub some_letters : (line : List ℕ) (lines : List (List ℕ)) → AreLetterLines (line ∷ lines) → (1 ≤ length line) × (length line ≤ 73)
some_letters line [] each = each
some_letters line (next ∷ lines) each = (omega (arith, each.0), omega (arith, each.0))

pub other_letters : (line : List ℕ) (lines : List (List ℕ)) → AreLetterLines (line ∷ lines) → AreLetterLines lines
other_letters line [] each = tt
other_letters line (next ∷ lines) each = each.1

lines-cons : (line : List ℕ) (lines : List (List ℕ)) → 1 ≤ length line → length line ≤ 73 → (length line ≡ 73) ⊎ (flat_map (λ l. l) lines ≡ []) → AreLetterLines lines → AreLetterLines (line ∷ lines)
lines-cons line [] low high whole each = (low, high)
lines-cons line (next ∷ lines) low high (inl full) each = (full, each)
lines-cons line (next ∷ lines) low high (inr none) each =
    absurd (omega (arith, (some_letters next lines each).0, length-append next (flat_map (λ l. l) lines), ap length none))

-- the letters of a first line, of at most 73, before those behind it
pub letters_laid-begun : (letters block : List ℕ) (n : ℕ) → 0 < length letters
    → n ≡ min (length letters) 73 → LettersLaidOut (drop n letters) block
    → LettersLaidOut letters (((indent ++ take n letters) ++ 10 ∷ []) ++ block)
letters_laid-begun letters block n some is laid =
    let line = take n letters in
    let len : length line ≡ n = omega (arith, length-take n letters) in
    let after = length-drop n letters in
    let whole : (length line ≡ 73) ⊎ (flat_map (λ l. l) laid.lines ≡ []) =
    elim (cases_lt (length letters) 73) [
      | inl lt ↦ inr (laid.in_order ∙ nil_from_length (drop n letters) (omega (arith, after)))
      | inr le ↦ inl (omega arith)
    ] in
    record {
      lines = line ∷ laid.lines;
      in_order = ap (λ (t : List ℕ). line ++ t) laid.in_order ∙ take-append-drop n letters;
      each = lines-cons line laid.lines (omega arith) (omega arith) whole laid.each;
      printed = ap (λ (t : List ℕ). ((indent ++ line) ++ 10 ∷ []) ++ t) laid.printed;
    }

-- ---- whole layouts

-- a first token, further ones, and the end of the last line
pub tokens_laid_out : (empty begun added text token : List ℕ) (room left : ℕ) (tokens : List (List ℕ)) → empty ≡ [] → begun ≡ empty ++ (indent ++ token) → room ≡ room_after (length token)
    → ((more : List (List ℕ)) → added ++ rest_of left more ≡ begun ++ rest_of room (tokens ++ more)) → text ≡ added ++ 10 ∷ [] → LaidOut (token ∷ tokens) text
tokens_laid_out empty begun added text token room left tokens none first after others is =
    let ends : added ++ 10 ∷ [] ≡ begun ++ rest_of room tokens =
    rw (← rest_ends left, others [], append-nil) refl in
    rw (is, ends, first, none, after) (laid_out_begun token tokens)

pub compressed_laid_out : (labels : List (List ℕ)) (letters list text : List ℕ) → LaidOut (in_parentheses labels) list → AppendsLetters list text letters → CompressedLaidOut labels letters text
compressed_laid_out labels letters list text laid more = record { list = list; block = more.block; list_laid_out = laid; letters_laid_out = more.laid_out; whole = more.text }

-- ==== tokens have one layout, and letters have one

-- ---- lines of tokens

-- a line grows with its tokens
join-grows : (a b : List (List ℕ)) → length (join_with_byte 32 a) ≤ length (join_with_byte 32 (a ++ b))
join-grows (x ∷ []) (y ∷ b) = omega (arith, length-append x (32 ∷ join_with_byte 32 (y ∷ b)))
join-grows (x ∷ y ∷ a) b =
    omega (arith, join-grows (y ∷ a) b, length-append x (32 ∷ join_with_byte 32 (y ∷ a)), length-append x (32 ∷ join_with_byte 32 ((y ∷ a) ++ b)))
join-grows a b = omega arith

width-grows : (a b : List (List ℕ)) → width a ≤ width (a ++ b)
width-grows a b = omega (arith, join-grows a b)

one_lines : (a b : List (List (List ℕ))) → AllByRecursion IsLine a → AllByRecursion IsLine b → IsGreedy a → IsGreedy b → flat_map (λ l. l) a ≡ flat_map (λ l. l) b → a ≡ b
one_lines a b p q g h e =
    one_greedy_cut width width-grows a b p q g h e

pub one_text_of_tokens : (tokens : List (List ℕ)) (a b : List ℕ) → LaidOut tokens a → LaidOut tokens b → a ≡ b
one_text_of_tokens tokens a b p q =
    let lines = one_lines p.lines q.lines p.each q.each p.greedy q.greedy (p.in_order ∙ sym q.in_order) in
    p.printed ∙ ap (λ (ls : List (List (List ℕ))). flat_map (λ line. token_line line ++ 10 ∷ []) ls) lines ∙ sym q.printed

-- ---- lines of letters

-- a line that others follow is whole
whole_line : (line : List ℕ) (lines : List (List ℕ)) → AreLetterLines (line ∷ lines) → 0 < length (flat_map (λ l. l) lines) → length line ≡ 73
whole_line line [] each lt = absurd (omega (arith, lt))
whole_line line (next ∷ lines) each lt = each.0

no_more_letters : (x : List ℕ) (a : List (List ℕ)) (y d more : List ℕ) (letter : ℕ) → AreLetterLines (x ∷ a) → length y ≤ 73 → y ≡ x ++ letter ∷ more → flat_map (λ l. l) a ≡ (letter ∷ more) ++ d → ⊥
no_more_letters x a y d more letter each short whole next =
    let count : length y ≡ length x + suc (length more) = ap length whole ∙ length-append x (letter ∷ more) in
    let some : length (flat_map (λ l. l) a) ≡ suc (length more) + length d = ap length next ∙ length-append (letter ∷ more) d in
    absurd (omega (arith, whole_line x a each (omega arith)))

one_letter_lines : (a b : List (List ℕ)) → AreLetterLines a → AreLetterLines b → flat_map (λ l. l) a ≡ flat_map (λ l. l) b → a ≡ b
one_letter_lines [] [] p q e = refl
one_letter_lines [] (y ∷ b) p q e = absurd (no_items y b (some_letters y b q).0 e)
one_letter_lines (x ∷ a) [] p q e = absurd (no_items x a (some_letters x a p).0 (sym e))
one_letter_lines (x ∷ a) (y ∷ b) p q e =
    elim (prefixes x (flat_map (λ l. l) a) y (flat_map (λ l. l) b) e) [
      | same first others ↦ let rest : a ≡ b = one_letter_lines a b (other_letters x a p) (other_letters y b q) others in cc
      | longer letter more whole next ↦ absurd (no_more_letters x a y (flat_map (λ l. l) b) more letter p (some_letters y b q).1 whole next)
      | shorter letter more whole next ↦ absurd (no_more_letters y b x (flat_map (λ l. l) a) more letter q (some_letters x a p).1 whole next)
    ]

one_text_of_letters : (letters a b : List ℕ) → LettersLaidOut letters a → LettersLaidOut letters b → a ≡ b
one_text_of_letters letters a b p q =
    let lines = one_letter_lines p.lines q.lines p.each q.each (p.in_order ∙ sym q.in_order) in
    p.printed ∙ ap (λ (ls : List (List ℕ)). flat_map (λ line. (indent ++ line) ++ 10 ∷ []) ls) lines ∙ sym q.printed

pub one_text_of_compressed : (labels : List (List ℕ)) (letters a b : List ℕ) → CompressedLaidOut labels letters a → CompressedLaidOut labels letters b → a ≡ b
one_text_of_compressed labels letters a b p q =
    let list = one_text_of_tokens (in_parentheses labels) p.list q.list p.list_laid_out q.list_laid_out in
    let block = one_text_of_letters letters p.block q.block p.letters_laid_out q.letters_laid_out in
    cc (p.whole, q.whole)
