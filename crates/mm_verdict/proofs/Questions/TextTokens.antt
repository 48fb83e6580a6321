-- The tokens of a handed text, each with its position, found one after the other.
use Rattle.std.proofs.Common.{◌≡◌, ℕ, zero, suc, ◌+◌, ◌-◌, ◌<◌, true, false, List, [], ◌∷◌}
use Rattle.std.proofs.Common.{◌++◌, take, drop, length, slice_index, sym, ap, subst, ◌∙◌, arith}
use Rattle.std.proofs.Common.{append_assoc, append-nil, length-append}
use Rattle.std.specs.List.{sum_by}
use Rattle.std.proofs.lemmas.List.{map-append, take-append-drop}
use Rattle.std.proofs.lemmas.List.Sums.{sum_by-append}
use Rattle.mm_base.specs.Token.{PlainToken, is_space, tokens_from}
use Rattle.mm_base.proofs.TokensFrom.{tokens_from-nil, tokens_from-space}
use Rattle.mm_base.proofs.TokensFrom.{tokens_from-run, BeginsWithSpace}
use Rattle.mm_code.specs.Words.{texts_of, LacksWhiteSpace}
use Rattle.mm_verdict.specs.Mirror.Comparisons.{ArePrefixTokens}

-- a word at a position of a text
abbrev pub word_at : (word : List ℕ) → (at : ℕ) → PlainToken
word_at word at = record { text = word; file = 0; at = at }

-- ---- a word is taken

bytes_with : (tokens : List PlainToken) (t : PlainToken)
    → sum_by length (texts_of (tokens ++ t ∷ []))
    ≡ sum_by length (texts_of tokens) + length t.text
bytes_with tokens t =
    ap (sum_by length) (map-append (λ (u : PlainToken). u.text) tokens (t ∷ []))
    ∙ sum_by-append (length {A = ℕ}) (texts_of tokens) (t.text ∷ [])
    ∙ omega arith

prefix_word : (text : List ℕ) (tokens : List PlainToken) (byte : ℕ) (word after : List ℕ)
    → ArePrefixTokens text tokens ((byte ∷ word) ++ after) → LacksWhiteSpace (byte ∷ word)
    → BeginsWithSpace after
    → ArePrefixTokens text
    (tokens ++ word_at (byte ∷ word) (length text - length ((byte ∷ word) ++ after)) ∷ []) after
prefix_word text tokens byte word after prefix dark stop =
    let all : List ℕ = (byte ∷ word) ++ after in
    let at : ℕ = length text - length all in
    let t : PlainToken = word_at (byte ∷ word) at in
    let long : length all ≡ length (byte ∷ word) + length after =
    length-append (byte ∷ word) after in
    let behind : length text - length after ≡ at + length (byte ∷ word) =
    omega (arith, prefix.room, long) in
    record {
      whole = append_assoc tokens (t ∷ []) (tokens_from 0 (length text - length after) after)
          ∙ ap (λ (n : ℕ). tokens ++ t ∷ tokens_from 0 n after) behind
          ∙ ap (λ (ts : List PlainToken). tokens ++ ts)
          (sym (tokens_from-run 0 at byte word after dark stop))
          ∙ prefix.whole;
      room = omega (arith, prefix.room, long, bytes_with tokens t);
    }

stops : (n : ℕ) (rest : List ℕ)
    → (n < length rest → is_space (slice_index rest n) ≡ true) → BeginsWithSpace (drop n rest)
stops zero [] white = tt
stops zero (b ∷ rest) white = white (omega arith)
stops (suc n) [] white = tt
stops (suc n) (b ∷ rest) white = stops n rest (λ less. white (omega (arith, less)))

word_taken : (text : List ℕ) (tokens : List PlainToken) (first : ℕ) (others : List ℕ) (n : ℕ)
    → ArePrefixTokens text tokens (first ∷ others) → is_space first ≡ false
    → LacksWhiteSpace (take n (first ∷ others))
    → (n < length (first ∷ others) → is_space (slice_index (first ∷ others) n) ≡ true)
    → ArePrefixTokens text
    (tokens ++ word_at (take n (first ∷ others)) (length text - length (first ∷ others)) ∷ [])
    (drop n (first ∷ others))
word_taken text tokens first others zero prefix dark lacks white =
    let light : is_space first ≡ true = white (omega arith) in
    let no : true ≡ false = sym light ∙ dark in absurd cc
word_taken text tokens first others (suc n) prefix dark lacks white =
    let split : (first ∷ take n others) ++ drop n others ≡ first ∷ others =
    ap (λ (bytes : List ℕ). first ∷ bytes) (take-append-drop n others) in
    subst (λ (bytes : List ℕ). ArePrefixTokens text
    (tokens ++ word_at (first ∷ take n others) (length text - length bytes) ∷ []) (drop n others))
    split
    (prefix_word text tokens first (take n others) (drop n others)
    (subst (ArePrefixTokens text tokens) (sym split) prefix) lacks
    (stops (suc n) (first ∷ others) white))

-- the word at the rest's beginning is taken
pub prefix_taken : (text : List ℕ) (tokens : List PlainToken) (rest : List ℕ) (first : ℕ)
    (others : List ℕ) (n : ℕ) (token after : List ℕ) (at : ℕ) → ArePrefixTokens text tokens rest
    → rest ≡ first ∷ others → is_space first ≡ false → LacksWhiteSpace (take n rest)
    → (n < length rest → is_space (slice_index rest n) ≡ true)
    → token ≡ take n rest → after ≡ drop n rest → at ≡ length text - length rest
    → ArePrefixTokens text (tokens ++ word_at token at ∷ []) after
prefix_taken text tokens rest first others n token after at prefix is dark lacks white token_is
    after_is at_is =
    rw (token_is, after_is, at_is, is)
    (word_taken text tokens first others n (rw is at prefix) dark (rw is at lacks) (rw is at white))

-- white space at its beginning is passed over
pub prefix_passed : (text : List ℕ) (tokens : List PlainToken) (rest : List ℕ) (first : ℕ)
    (others : List ℕ) → ArePrefixTokens text tokens rest → rest ≡ first ∷ others
    → is_space first ≡ true → ArePrefixTokens text tokens others
prefix_passed text tokens rest first others prefix is white =
    let begun : ArePrefixTokens text tokens (first ∷ others) =
    subst (ArePrefixTokens text tokens) is prefix in
    let at : ℕ = length text - length (first ∷ others) in
    let next : length text - length others ≡ at + 1 = omega (arith, begun.room) in
    record {
      whole = ap (λ (n : ℕ). tokens ++ tokens_from 0 n others) next
          ∙ ap (λ (ts : List PlainToken). tokens ++ ts)
          (sym (tokens_from-space 0 at first others white))
          ∙ begun.whole;
      room = omega (arith, begun.room);
    }

-- ---- the whole text

-- nothing is taken at first
pub prefix_none : (text : List ℕ) → ArePrefixTokens text [] text
prefix_none text =
    record {
      whole = ap (λ (n : ℕ). tokens_from 0 n text) (omega arith);
      room = omega arith;
    }

-- nothing is left at the end
pub prefix_all : (text : List ℕ) (tokens : List PlainToken) (rest : List ℕ)
    → ArePrefixTokens text tokens rest → length rest ≡ 0 → tokens ≡ tokens_from 0 0 text
prefix_all text tokens (byte ∷ rest) prefix none = absurd (omega (arith, none))
prefix_all text tokens [] prefix none =
    sym (append-nil tokens)
    ∙ ap (λ (ts : List PlainToken). tokens ++ ts) (sym (tokens_from-nil 0 (length text - 0)))
    ∙ prefix.whole
