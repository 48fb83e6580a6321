-- What a cursor takes from the items that are left. This file mirrors the code, and is cited by
-- private contracts alone.
use Rattle.std.specs.Prelude.{◌≡◌, ◌<◌, List, [], ◌∷◌, Option, Some, None, Result, Ok, Err, ⊤}
use Rattle.mm_text.specs.declared.class.Class.{Class}
use Rattle.mm_text.specs.declared.class.Class.TheVariants as class
use Rattle.mm_text.specs.declared.next.Next.{Next}
use Rattle.mm_text.specs.declared.next.Next.TheVariants as next
use Rattle.mm_base.specs.declared.token.Token.{Token}
use Rattle.mm_text.specs.declared.fault.TextFault.{TextFault}
use Rattle.mm_text.specs.declared.fault.TextFault.TheVariants.{Load, Fault, Memory}
use Rattle.mm_text.specs.Mirror.Class.{keyword_bytes}
use Rattle.mm_base.specs.Token.{PlainToken, plain_token, HoldsNoDollar}
use Rattle.mm_base.specs.MostBytes.{most_bytes}
use Rattle.mm_text.specs.Files.{PlainFile, BreaksLoad}
use Rattle.mm_text.specs.declared.fault.LoadRule.{LoadRule}
use Rattle.mm_text.specs.Items.{Item, Plain, Wrong, Inclusion, End, items}

-- the items that begin with a token of a class
abbrev pub items_with : PlainToken → Class → List Item → List Item
items_with t (class.Wrong rule) rest = Wrong rule t ∷ []
items_with t (class.Keyword keyword) rest = Plain t ∷ rest
items_with t class.Word rest = Plain t ∷ rest

-- what its class tells of a token that breaks no rule by itself
abbrev pub IsOfClass : PlainToken → Class → Type 0
IsOfClass t (class.Wrong rule) = Unit {0}
IsOfClass t (class.Keyword keyword) = t.text ≡ keyword_bytes keyword
IsOfClass t class.Word = HoldsNoDollar t.text

-- the next token is the first of the items, and those after it are left
pub record TakesToken (old : List Item) (t : PlainToken) (kind : Class)
    (new : List Item) : Type 0 where
  pub first : old ≡ items_with t kind new
  pub text : IsOfClass t kind
  pub at : t.at < most_bytes

-- the first of the items is taken, and those after it are left
abbrev pub TakesItem : List Item → Next → List Item → Type 0
TakesItem old (next.Token t kind) new = TakesToken old (plain_token t) kind new
TakesItem old (next.Inclusion t) new = old ≡ Inclusion (plain_token t) ∷ new
TakesItem old (next.End file) new = old ≡ End file ∷ new
TakesItem old next.Nothing new = (old ≡ []) × (new ≡ [])

-- the first of the items is taken, a word; or none is
abbrev pub TakesWord : List Item → Option Token → List Item → Type 0
TakesWord old (Some t) new = TakesToken old (plain_token t) class.Word new
TakesWord old None new = new ≡ old

-- The items of the files are left, and no rule is broken by the files as a whole; or one is, or
-- memory runs out.
abbrev pub IsFirstCursor : List PlainFile → Result (List Item) TextFault → Type 0
IsFirstCursor files (Ok left) =
    (left ≡ items files) × ((rule : LoadRule) → ¬ (BreaksLoad files rule))
IsFirstCursor files (Err (Load rule)) = BreaksLoad files rule
IsFirstCursor files (Err Memory) = ⊤
IsFirstCursor files (Err (Fault rule file at statement label)) = ⊥
