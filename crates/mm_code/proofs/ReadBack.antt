-- What is laid out is found again: the tokens of a text, byte by byte, and the words of a laid-out
-- text, which are its tokens.
use Rattle.std.proofs.Common.{◌≡◌, ℕ, ◌+◌, ◌==◌, List, [], ◌∷◌, Bool, true, false, refl, sym, cond}
use Rattle.std.proofs.Common.{ap, ◌∙◌, inl, inr, ◌<◌, ◌++◌, length, append_assoc, arith, flat_map}
use Rattle.std.proofs.Common.{append-nil}
use Rattle.std.specs.List.{onto_first, join_with_byte, AllByRecursion}
use Rattle.std.proofs.lemmas.Bool.{cases_Bool}
use Rattle.mm_base.specs.Token.{PlainToken, is_space, with_byte, tokens_from}
use Rattle.mm_base.proofs.TokensFrom.{tokens_from-nil, tokens_from-space}
use Rattle.mm_base.proofs.TokensFrom.{tokens_from-byte, tokens_from-run}
use Rattle.mm_base.proofs.TokensFrom.{with_byte_joined}
use Rattle.mm_base.proofs.Lists.{all_append, all_back, all_prefix}
use Rattle.mm_code.specs.Words.{texts_of, tokens_in, LacksWhiteSpace, IsOneToken}
use Rattle.mm_code.specs.Layout.{indent, token_line, IsLine, LaidOut, AreLetterLines}
use Rattle.mm_code.specs.Layout.{in_parentheses, CompressedLaidOut}
use Rattle.mm_code.proofs.LaidOutLines.{line_length, some_letters, other_letters}

-- ==== the tokens of a text, byte by byte. Their bytes are the same wherever the text begins

-- ---- from an index on

-- the bytes of the tokens of a file from an index on
abbrev texts_from : ℕ → ℕ → List ℕ → List (List ℕ)
texts_from file at bytes = texts_of (tokens_from file at bytes)

-- no token goes on with these bytes
abbrev ends_token : List ℕ → Bool
ends_token [] = true
ends_token (b ∷ bytes) = is_space b

-- a byte before bytes that have these tokens
abbrev texts_with : ℕ → List ℕ → List (List ℕ) → List (List ℕ)
texts_with b bytes texts =
    cond (is_space b) texts (cond (ends_token bytes) ((b ∷ []) ∷ texts) (onto_first b texts))

-- a byte before a token's first one
onto_byte : (file at b next : ℕ) (tokens : List PlainToken)
    → texts_of (with_byte file at b (with_byte file (at + 1) next tokens))
    ≡ onto_first b (texts_of (with_byte file (at + 1) next tokens))
onto_byte file at b next [] = ap texts_of (with_byte_joined file at b (next ∷ []) [])
onto_byte file at b next (t ∷ tokens) =
    elim (cases_Bool (t.at == at + 1 + 1)) [
      | inl joined ↦ simp joined (ap texts_of (with_byte_joined file at b (next ∷ t.text) tokens))
      | inr apart ↦ simp apart (ap texts_of (with_byte_joined file at b (next ∷ []) (t ∷ tokens)))
    ]

texts_step : (file at b : ℕ) (bytes : List ℕ)
    → texts_from file at (b ∷ bytes) ≡ texts_with b bytes (texts_from file (at + 1) bytes)
texts_step file at b [] = elim (cases_Bool (is_space b)) [
  | inl white ↦ rw white (ap texts_of (tokens_from-space file at b [] white))
  | inr dark ↦ rw dark (ap texts_of (tokens_from-run file at b [] [] (dark, tt) tt))
]
texts_step file at b (next ∷ bytes) = elim (cases_Bool (is_space b)) [
  | inl white ↦ rw white (ap texts_of (tokens_from-space file at b (next ∷ bytes) white))
  | inr dark ↦ elim (cases_Bool (is_space next)) [
    | inl stop ↦ rw (dark, stop)
        (ap texts_of (tokens_from-run file at b [] (next ∷ bytes) (dark, tt) stop))
    | inr ink ↦ rw (dark, ink, tokens_from-byte file at b (next ∷ bytes) dark)
        (rw (tokens_from-byte file (at + 1) next bytes ink) (onto_byte file at b next _))
  ]
]

-- ---- wherever the text begins

-- the tokens have the same bytes
wherever : (file at other index : ℕ) (bytes : List ℕ)
    → texts_from file at bytes ≡ texts_from other index bytes
wherever file at other index [] =
    ap texts_of (tokens_from-nil file at ∙ sym (tokens_from-nil other index))
wherever file at other index (b ∷ bytes) =
    texts_step file at b bytes
    ∙ ap (texts_with b bytes) (wherever file (at + 1) other (index + 1) bytes)
    ∙ sym (texts_step other index b bytes)

-- ---- the tokens of a text

-- the tokens of a file have the bytes of those of the text
pub texts_in : (file at : ℕ) (bytes : List ℕ) → texts_of (tokens_from file at bytes) ≡ tokens_in bytes
unfolding tokens_in
texts_in file at bytes = wherever file at 0 0 bytes

pub tokens_in-nil : tokens_in [] ≡ []
tokens_in-nil = sym (texts_in 0 0 []) ∙ ap texts_of (tokens_from-nil 0 0)

tokens_in-step : (byte : ℕ) (bytes : List ℕ)
    → tokens_in (byte ∷ bytes) ≡ texts_with byte bytes (tokens_in bytes)
tokens_in-step byte bytes =
    sym (texts_in 0 0 (byte ∷ bytes)) ∙ texts_step 0 0 byte bytes
    ∙ ap (texts_with byte bytes) (texts_in 0 (0 + 1) bytes)

-- white space before a word
pub tokens_in-space : (byte : ℕ) (bytes : List ℕ) → is_space byte ≡ true
    → tokens_in (byte ∷ bytes) ≡ tokens_in bytes
tokens_in-space byte bytes white = tokens_in-step byte bytes ∙ rw white refl

-- a word's last byte, before white space
pub tokens_in-end : (byte space : ℕ) (bytes : List ℕ) → is_space byte ≡ false
    → is_space space ≡ true
    → tokens_in (byte ∷ space ∷ bytes) ≡ (byte ∷ []) ∷ tokens_in (space ∷ bytes)
tokens_in-end byte space bytes dark white =
    tokens_in-step byte (space ∷ bytes) ∙ rw (dark, white) refl

-- another byte of it
pub tokens_in-on : (byte next : ℕ) (bytes : List ℕ) → is_space byte ≡ false
    → is_space next ≡ false
    → tokens_in (byte ∷ next ∷ bytes) ≡ onto_first byte (tokens_in (next ∷ bytes))
tokens_in-on byte next bytes dark dark_next =
    tokens_in-step byte (next ∷ bytes) ∙ rw (dark, dark_next) refl

-- ==== what is laid out is found again: the words of the text are its tokens

-- a token before white space is found
pub tokens_in-token : (token : List ℕ) (space : ℕ) (bytes : List ℕ) → IsOneToken token → is_space space ≡ true → tokens_in (token ++ space ∷ bytes) ≡ token ∷ tokens_in bytes
tokens_in-token [] space bytes is white = absurd (omega (arith, is.0))
tokens_in-token (byte ∷ token) space bytes is white =
    sym (texts_in 0 0 (byte ∷ token ++ space ∷ bytes))
    ∙ ap texts_of (tokens_from-run 0 0 byte token (space ∷ bytes) is.1 white)
    ∙ ap (λ ts. (byte ∷ token) ∷ ts)
    (texts_in 0 _ (space ∷ bytes) ∙ tokens_in-space space bytes white)

tokens_in-indent : (bytes : List ℕ) → tokens_in (indent ++ bytes) ≡ tokens_in bytes
tokens_in-indent bytes =
    tokens_in-space 32 (32 ∷ 32 ∷ 32 ∷ 32 ∷ 32 ∷ bytes) refl ∙ tokens_in-space 32 (32 ∷ 32 ∷ 32 ∷ 32 ∷ bytes) refl ∙ tokens_in-space 32 (32 ∷ 32 ∷ 32 ∷ bytes) refl
    ∙ tokens_in-space 32 (32 ∷ 32 ∷ bytes) refl ∙ tokens_in-space 32 (32 ∷ bytes) refl ∙ tokens_in-space 32 bytes refl

-- ---- lines of tokens

tokens_in-join : (first : List ℕ) (line : List (List ℕ)) (bytes : List ℕ) → AllByRecursion IsOneToken (first ∷ line) → tokens_in (join_with_byte 32 (first ∷ line) ++ 10 ∷ bytes) ≡ (first ∷ line) ++ tokens_in bytes
tokens_in-join first [] bytes are = tokens_in-token first 10 bytes are.0 refl
tokens_in-join first (next ∷ line) bytes are =
    ap tokens_in (append_assoc first (32 ∷ join_with_byte 32 (next ∷ line)) (10 ∷ bytes)) ∙ tokens_in-token first 32 (join_with_byte 32 (next ∷ line) ++ 10 ∷ bytes) are.0 refl
    ∙ ap (λ (ws : List (List ℕ)). first ∷ ws) (tokens_in-join next line bytes are.1)

tokens_in-line : (line : List (List ℕ)) (bytes : List ℕ) → 0 < length line → AllByRecursion IsOneToken line → tokens_in ((token_line line ++ 10 ∷ []) ++ bytes) ≡ line ++ tokens_in bytes
tokens_in-line [] bytes some are = absurd (omega arith)
tokens_in-line (first ∷ line) bytes some are =
    ap tokens_in (append_assoc (token_line (first ∷ line)) (10 ∷ []) bytes) ∙ tokens_in-indent (join_with_byte 32 (first ∷ line) ++ 10 ∷ bytes) ∙ tokens_in-join first line bytes are

tokens_in-lines : (lines : List (List (List ℕ))) (bytes : List ℕ) → AllByRecursion IsLine lines → AllByRecursion IsOneToken (flat_map (λ l. l) lines)
    → tokens_in (flat_map (λ line. token_line line ++ 10 ∷ []) lines ++ bytes) ≡ flat_map (λ l. l) lines ++ tokens_in bytes
tokens_in-lines [] bytes each are = refl
tokens_in-lines (line ∷ lines) bytes each are =
    let others = flat_map (λ l. token_line l ++ 10 ∷ []) lines in
    ap tokens_in (append_assoc (token_line line ++ 10 ∷ []) others bytes)
    ∙ tokens_in-line line (others ++ bytes) (line_length line each.0) (all_prefix IsOneToken line (flat_map (λ l. l) lines) are)
    ∙ ap (λ (ws : List (List ℕ)). line ++ ws) (tokens_in-lines lines bytes each.1 (all_back IsOneToken line (flat_map (λ l. l) lines) are))
    ∙ sym (append_assoc line (flat_map (λ l. l) lines) (tokens_in bytes))

tokens_in-laid_out : (tokens : List (List ℕ)) (text bytes : List ℕ) → AllByRecursion IsOneToken tokens → LaidOut tokens text → tokens_in (text ++ bytes) ≡ tokens ++ tokens_in bytes
tokens_in-laid_out tokens text bytes are laid =
    let lines = tokens_in-lines laid.lines bytes laid.each (rw laid.in_order are) in
    rw (laid.printed, lines, laid.in_order) refl

pub normal_read_back : (labels : List (List ℕ)) (text : List ℕ) → AllByRecursion IsOneToken labels → LaidOut labels text → tokens_in text ≡ labels
normal_read_back labels text are laid =
    ap tokens_in (sym (append-nil text)) ∙ tokens_in-laid_out labels text [] are laid ∙ ap (λ (ws : List (List ℕ)). labels ++ ws) tokens_in-nil ∙ append-nil labels

-- ---- lines of letters

tokens_in-letters : (lines : List (List ℕ)) → AreLetterLines lines → LacksWhiteSpace (flat_map (λ l. l) lines) → tokens_in (flat_map (λ line. (indent ++ line) ++ 10 ∷ []) lines) ≡ lines
tokens_in-letters [] each dark = tokens_in-nil
tokens_in-letters (line ∷ lines) each dark =
    let others = flat_map (λ l. (indent ++ l) ++ 10 ∷ []) lines in
    let is_dark = λ (byte : ℕ). is_space byte ≡ false in
    let is : IsOneToken line = (omega (arith, (some_letters line lines each).0), all_prefix is_dark line (flat_map (λ l. l) lines) dark) in
    ap tokens_in (append_assoc (indent ++ line) (10 ∷ []) others) ∙ tokens_in-indent (line ++ 10 ∷ others) ∙ tokens_in-token line 10 others is refl
    ∙ ap (λ (ws : List (List ℕ)). line ∷ ws) (tokens_in-letters lines (other_letters line lines each) (all_back is_dark line (flat_map (λ l. l) lines) dark))

pub compressed_read_back : (labels : List (List ℕ)) (letters text : List ℕ) → AllByRecursion IsOneToken labels → LacksWhiteSpace letters → CompressedLaidOut labels letters text
    → (pieces : List (List ℕ)) × (tokens_in text ≡ in_parentheses labels ++ pieces) × (flat_map (λ piece. piece) pieces ≡ letters)
compressed_read_back labels letters text are dark laid =
    let block = laid.letters_laid_out in
    let found = tokens_in-letters block.lines block.each (rw block.in_order dark) in
    let end = all_append IsOneToken labels ((41 ∷ []) ∷ []) are ((omega arith, (refl, tt)), tt) in
    let listed = tokens_in-laid_out (in_parentheses labels) laid.list laid.block
    ((omega arith, (refl, tt)), end) laid.list_laid_out in
    (block.lines, rw (laid.whole, listed, block.printed, found), block.in_order)
