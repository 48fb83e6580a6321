-- What the reader's code tells of a token by its bytes alone. This file mirrors the code, and is
-- cited by private contracts alone; public ones speak of `broken_outside`.
use Rattle.std.specs.Prelude.{◌≡◌, ℕ, List, codes, Some, ◌⊎◌}
use Rattle.mm_text.specs.declared.class.Keyword.{Keyword}
use Rattle.mm_text.specs.declared.class.Keyword.TheVariants.{Constants, Variables, Distinct}
use Rattle.mm_text.specs.declared.class.Keyword.TheVariants.{Floating, Essential, Axiom, Provable}
use Rattle.mm_text.specs.declared.class.Keyword.TheVariants.{Stop, Equals, Opening, Closing}
use Rattle.mm_text.specs.declared.class.Class.{Class}
use Rattle.mm_text.specs.declared.class.Class.TheVariants as class
use Rattle.mm_base.specs.Token.{HoldsNoDollar}
use Rattle.mm_text.specs.Items.{broken_outside}

-- the bytes of a keyword
abbrev pub keyword_bytes : Keyword → List ℕ
keyword_bytes Constants = codes "$c"
keyword_bytes Variables = codes "$v"
keyword_bytes Distinct = codes "$d"
keyword_bytes Floating = codes "$f"
keyword_bytes Essential = codes "$e"
keyword_bytes Axiom = codes "$a"
keyword_bytes Provable = codes "$p"
keyword_bytes Stop = codes "$."
keyword_bytes Equals = codes "$="
keyword_bytes Opening = codes "${"
keyword_bytes Closing = codes "$}"

-- the keywords that are met before a token has a class: `$(`, `$)` and `$[`
abbrev pub IsReadApart : List ℕ → Type 0
IsReadApart text = (text ≡ codes "$(") ⊎ (text ≡ codes "$)") ⊎ (text ≡ codes "$[")

-- a text that stands outside comments and inclusions, and is no `$[`, is of a class
abbrev pub ClassIs : List ℕ → Class → Type 0
ClassIs text (class.Wrong rule) = broken_outside text ≡ Some rule
ClassIs text (class.Keyword keyword) = text ≡ keyword_bytes keyword
ClassIs text class.Word = HoldsNoDollar text
