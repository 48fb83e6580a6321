-- What mends a faulty proof: one change of its text with which it is a proof of its theorem (the
-- Metamath book, sections 4.1.4, 4.3 and 4.4.3, appendix B). The changes are those of slips: of one
-- byte, or of two neighbouring bytes or words. Which are tried, and their order, is this project's
-- own.
use Rattle.std.specs.Prelude.{◌≡◌, ◌⊎◌, ℕ, zero, suc, ◌+◌, ◌-◌, ◌/◌, min, max, ◌==◌, List, [], ◌∷◌, ◌++◌, map}
use Rattle.std.specs.Prelude.{Bool, not, length, take, drop, filter, slice_index, nat_lt, codes}
use Rattle.std.specs.Prelude.{if◌then◌else◌, ◌&&◌}
use Rattle.std.specs.List.{flat_map, position_or_len, prefix_len, range_with_len}
use Rattle.mm_base.specs.Statement.{PlainStatement}
use Rattle.mm_base.specs.Token.{is_space}
use Rattle.mm_text.specs.Files.{PlainFile}
use Rattle.mm_frame.specs.Sentence.{Sentence}
use Rattle.mm_step.specs.declared.profile.Profile.TheVariants.{Lenient}
use Rattle.mm_proof.specs.UnderProfile.{IsProvedUnder}
use Rattle.mm_rules.specs.Places.{bytes_of}
use Rattle.mm_rules.specs.ProofText.{proof_words}
use Rattle.mm_verdict.specs.Alone.{HasProofTokens}
use Rattle.mm_mend.specs.declared.change.Change.{Change}
use Rattle.mm_mend.specs.declared.change.Change.TheVariants.{Words, Removed, Exchanged, Replaced}
use Rattle.mm_mend.specs.declared.change.Change.TheVariants.{Put}

-- ---- one change

-- the text of the statement's proof: the bytes of its span
abbrev pub proof_text : List PlainFile → PlainStatement → List ℕ
proof_text files s =
    take (s.span.1 - s.span.0) (drop s.span.0 (bytes_of files s.first.file))

-- From an index on so many bytes are replaced by others.
abbrev pub spliced : (at count : ℕ) → (others text : List ℕ) → List ℕ
spliced at count others text = take at text ++ others ++ drop count (drop at text)

-- What stands at an index is exchanged with what stands behind it.
abbrev pub exchanged_at : {A : Type 0} → ℕ → List A → List A
exchanged_at at xs =
    take at xs ++ take 1 (drop 1 (drop at xs)) ++ take 1 (drop at xs) ++ drop 2 (drop at xs)

-- the text after the change, where that is one of bytes
abbrev pub text_with : Change → List ℕ → List ℕ
text_with (Words at) text = text
text_with (Removed at) text = spliced at 1 [] text
text_with (Exchanged at) text = exchanged_at at text
text_with (Replaced at byte) text = spliced at 1 (byte ∷ []) text
text_with (Put at byte) text = spliced at 0 (byte ∷ []) text

-- a text may be handed in, and its tokens are a proof of the `$p`
abbrev pub IsProofText : (before : List Sentence) → Sentence → (text : List ℕ) → Type 0
IsProofText before s text =
    HasProofTokens text × IsProvedUnder Lenient before s (proof_words text)

-- The change mends the proof of the `$p` with these tokens and this text: after it these are a
-- proof of it.
abbrev pub IsMend : (before : List Sentence) → Sentence → (tokens : List (List ℕ))
    → (text : List ℕ) → Change → Type 0
IsMend before s tokens text (Words at) =
    IsProvedUnder Lenient before s (exchanged_at at tokens)
IsMend before s tokens text change = IsProofText before s (text_with change text)

-- ---- the changes that are tried

unfoldable pub letters : List ℕ
letters = codes "ABCDEFGHIJKLMNOPQRSTUVWXYZ"

unfoldable pub label_bytes : List ℕ
label_bytes = codes "ABCDEFGHIJKLMNOPQRSTUVWXYZabcdefghijklmnopqrstuvwxyz0123456789-_."

-- the bytes that are put at an index: letters behind the first `)`, else those of labels
abbrev pub bytes_for : (close at : ℕ) → List ℕ
bytes_for close at = if nat_lt close at then letters else label_bytes

-- these bytes but this one
abbrev pub others : (own : ℕ) → List ℕ → List ℕ
others own bytes = filter (λ byte. not (byte == own)) bytes

-- a byte of a word: no white space, and not 0, which stands for none
abbrev pub is_of_word : ℕ → Bool
is_of_word byte = not (is_space byte) && not (byte == 0)

-- A byte is removed, and exchanged with the next, where that one is of the word too; neither where
-- both are the same.
abbrev pub removals : (own next at : ℕ) → List Change
removals own next at =
    if own == next then []
    else (if is_of_word next then Removed at ∷ Exchanged at ∷ [] else Removed at ∷ [])

-- A byte of a word is removed, exchanged, and replaced by each of these.
abbrev pub own_changes : (own next at : ℕ) → (bytes : List ℕ) → List Change
own_changes own next at bytes =
    if is_of_word own
    then removals own next at ++ map (λ byte. Replaced at byte) bytes else []

-- The changes at an index, where this byte stands, and then that one: those of the byte itself; and
-- each of these bytes, but the one that stands there, is put before it, or at the end.
abbrev pub changes_of : (own next at : ℕ) → (bytes : List ℕ) → List Change
changes_of own next at bytes =
    own_changes own next at (others own bytes) ++ map (λ byte. Put at byte) (others own bytes)

-- the index of the first `)`, or that of the end
abbrev pub closing_at : List ℕ → ℕ
closing_at text = position_or_len (λ byte. byte == 41) text

abbrev pub changes_at : List ℕ → (at : ℕ) → List Change
changes_at text at =
    changes_of (slice_index (drop at text) 0) (slice_index (drop at text) 1) at
    (bytes_for (closing_at text) at)

-- where the word ends that stands at an index
abbrev pub word_end : List ℕ → (at : ℕ) → ℕ
word_end text at = at + prefix_len (λ byte. not (is_space byte)) (drop at text)

-- Where the changes begin in a text that begins at a position in its file, for a fault at this one:
-- where the word ends that stands there, but before the last byte, which keeps the proof from `$.`.
abbrev pub reach_of : (text : List ℕ) → (begin place : ℕ) → ℕ
reach_of text begin place = min (word_end text (place - begin)) (length text - 1)

-- how many bytes are judged in all, for one change at each place
abbrev pub most_judged : ℕ
most_judged = 200000

-- at how many of so many places changes are tried, in a text of so many bytes
abbrev pub place_count : (size places : ℕ) → ℕ
place_count size places = min places (most_judged / max size 1)

-- each two neighbours of so many words are exchanged
abbrev pub word_changes : (size words : ℕ) → List Change
word_changes size words =
    map (λ at. Words at) (range_with_len 0 (place_count size (words - 1)))

-- the changes at so many places, from this one back
abbrev pub byte_changes : (count reach : ℕ) → (text : List ℕ) → List Change
byte_changes count reach text =
    flat_map (λ i. changes_at text (reach - i)) (range_with_len 0 count)

-- The changes that are tried where the proof has so many words, and its first fault is in the word
-- that ends here: first those of words, then those of bytes, from there back to the second byte, as
-- the first keeps the proof from `$=`.
abbrev pub changes_for : (words reach : ℕ) → (text : List ℕ) → List Change
changes_for words reach text =
    word_changes (length text) words
    ++ byte_changes (place_count (length text) reach) reach text

-- ---- those that mend

-- These are the first of the changes that are so, in their order, and so many at most.
abbrev pub AreFirst : (Change → Type 0) → (most : ℕ) → (changes found : List Change) → Type 0
AreFirst P most [] found = found ≡ []
AreFirst P zero (change ∷ changes) found = found ≡ []
AreFirst P (suc most) (change ∷ changes) found =
    (P change × ((others : List Change) × (found ≡ change ∷ others)
    × AreFirst P most changes others))
    ⊎ (¬ (P change) × AreFirst P (suc most) changes found)

-- how many are told at most
abbrev pub most_told : ℕ
most_told = 10
