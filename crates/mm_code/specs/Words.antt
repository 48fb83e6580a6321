-- What a reader of a text finds in it: its tokens (the Metamath book, section 4.1.1).
use Rattle.std.specs.Prelude.{◌≡◌, ℕ, ◌<◌, false, List, length, map}
use Rattle.std.specs.List.{AllByRecursion}
use Rattle.mm_base.specs.Token.{PlainToken, is_space, tokens_from}

-- the bytes of tokens, without where they stand
abbrev pub texts_of : List PlainToken → List (List ℕ)
texts_of tokens = map (λ t. t.text) tokens

-- the tokens of a text: those of a file of these bytes
unfoldable pub tokens_in : List ℕ → List (List ℕ)
tokens_in text = texts_of (tokens_from 0 0 text)

-- none of these bytes is white space
abbrev pub LacksWhiteSpace : List ℕ → Type 0
LacksWhiteSpace bytes = AllByRecursion (λ byte. is_space byte ≡ false) bytes

-- one token: some bytes, and no white space among them
abbrev pub IsOneToken : List ℕ → Type 0
IsOneToken bytes = (0 < length bytes) × LacksWhiteSpace bytes
