-- Variants of a pattern: symbols that differ from its tokens by the names of variables alone, one for
-- one. The question is this project's own.
use Rattle.std.specs.Prelude.{◌≡◌, ◌≢◌, ◌⊎◌, ◌↔◌, ℕ, List, ◌∷◌, ◌++◌, codes}
use Rattle.std.specs.Prelude.{Bool, true, false, Option, Some}
use Rattle.std.specs.List.{AllZip}
use Rattle.mm_frame.specs.Sentence.{Sentence, SomeSentence, Types}
use Rattle.mm_find.specs.Shape.{StandsForOne}

-- the type codes of variables: each has the one that the `$f` among the statements give it
abbrev pub AreTypeCodes : List Sentence → (type_of : List ℕ → Option (List ℕ)) → Type 0
AreTypeCodes statements type_of =
    (x code : List ℕ) → (type_of x ≡ Some code) ↔ SomeSentence statements (Types code x)

-- both are variables, and have one type code
abbrev pub ShareType : (type_of : List ℕ → Option (List ℕ)) → (x y : List ℕ) → Type 0
ShareType type_of x y = (code : List ℕ) × (type_of x ≡ Some code) × (type_of y ≡ Some code)

-- the token may become the symbol: a variable each variable of its type; `$?` every symbol; another
-- token itself
abbrev pub MayBecome : (type_of : List ℕ → Option (List ℕ)) → (token symbol : List ℕ) → Type 0
MayBecome type_of token symbol = ShareType type_of token symbol ⊎ StandsForOne token symbol

-- two tokens become their symbols one for one: the same token the same symbol, and different ones
-- different ones; of `$?` nothing is asked
abbrev pub Agree : (token symbol other other_symbol : List ℕ) → Type 0
Agree token symbol other other_symbol =
    token ≢ codes "$?" → other ≢ codes "$?" → (token ≡ other) ↔ (symbol ≡ other_symbol)

-- The symbols are a variant of the tokens: each token becomes the symbol in its place, one for one.
pub record AreVariant (type_of : List ℕ → Option (List ℕ)) (tokens symbols : List (List ℕ))
    : Type 0 where
  pub each : AllZip (MayBecome type_of) tokens symbols
  pub one_for_one : AllZip (λ token symbol. AllZip (Agree token symbol) tokens symbols) tokens symbols

-- The expression has a variant of the tokens: some of its symbols, one behind the other, are one. If
-- it is to be a whole one, all of them are, or all but its type code.
abbrev pub HasVariant : (type_of : List ℕ → Option (List ℕ)) → (whole : Bool)
    → (tokens expression : List (List ℕ)) → Type 0
HasVariant type_of true tokens expression =
    AreVariant type_of tokens expression
    ⊎ ((code : List ℕ) × (rest : List (List ℕ)) × (expression ≡ code ∷ rest)
    × AreVariant type_of tokens rest)
HasVariant type_of false tokens expression =
    (before : List (List ℕ)) × (own : List (List ℕ)) × (after : List (List ℕ))
    × (expression ≡ before ++ own ++ after) × AreVariant type_of tokens own
