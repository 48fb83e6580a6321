-- The reading of the handed files: the statements that they hold, and how it ends (the Metamath
-- book, sections 4.1 and 4.2).
use Rattle.std.specs.Prelude.{◌≡◌, ◌≢◌, ℕ, ◌+◌, ◌≤◌, List, [], ◌∷◌, ◌++◌, length, slice_get, codes}
use Rattle.std.specs.Prelude.{Option, Some, None, IfSome, ◌⊎◌, slice_range}
use Rattle.std.specs.List.{AllByRecursion}
use Rattle.mm_text.specs.declared.fault.TextRule.{TextRule}
use Rattle.mm_text.specs.declared.fault.TextRule.TheVariants.{X6, X8, S1, S2, S3, S4, S5, S6, S7}
use Rattle.mm_base.specs.declared.statement.Kind.{Kind}
use Rattle.mm_base.specs.declared.statement.Kind.TheVariants.{Constants, Variables, Distinct}
use Rattle.mm_base.specs.declared.statement.Kind.TheVariants.{Floating, Essential, Axiom, Provable}
use Rattle.mm_base.specs.declared.statement.Kind.TheVariants.{Opening, Closing}
use Rattle.mm_base.specs.Token.{PlainToken, IsLabel, HoldsNoDollar}
use Rattle.mm_text.specs.Files.{PlainFile}
use Rattle.mm_text.specs.Items.{Item, Plain, Wrong, Inclusion, End, items, plain_tokens}
use Rattle.mm_text.specs.Items.{HoldNoFault}
use Rattle.mm_base.specs.Blocks.{AreBalanced, AreClosed, IsInnermost}
use Rattle.mm_base.specs.Statement.{PlainStatement, IsKeyword, IsHead, HasBody, AreSymbols}
use Rattle.mm_base.specs.Statement.{FitsCount, label_in, SpellsAll, keyword_of}

-- A fault in the text: its rule, the number of its file and its position there, the number of the
-- statement at fault, from 1, and the label of the statement in which it stands.
pub record PlainFault : Type 0 where
  pub rule : TextRule
  pub file : ℕ
  pub at : ℕ
  pub statement : ℕ
  pub label : Option PlainToken

-- an unfinished statement of this kind, which has these symbols so far
pub record IsBody (tokens : List PlainToken) (kind : Kind)
    (symbols : List PlainToken) : Type 0 where
  pub head : List PlainToken
  pub whole : tokens ≡ head ++ symbols
  pub begins : IsHead kind head
  pub long : HasBody kind
  pub spelled : AreSymbols symbols
  pub room : kind ≡ Floating → length symbols ≤ 2

-- an unfinished `$p` with its `$=`
pub record IsInProof (tokens : List PlainToken) : Type 0 where
  pub body : List PlainToken
  pub symbols : List PlainToken
  pub equals : PlainToken
  pub proof : List PlainToken
  pub whole : tokens ≡ body ++ equals ∷ proof
  pub stated : IsBody body Provable symbols
  pub some : 1 ≤ length symbols
  pub sign : equals.text ≡ codes "$="
  pub steps : AreSymbols proof

-- nothing yet
abbrev pub IsNothing : List PlainToken → Type 0
IsNothing tokens = tokens ≡ []

-- a label, with no keyword yet
pub record IsLone (tokens : List PlainToken) : Type 0 where
  pub label : PlainToken
  pub whole : tokens ≡ label ∷ []
  pub named : IsLabel label.text

-- nothing, or a beginning of a statement that more tokens would finish
abbrev pub IsBeginning : List PlainToken → Type 0
IsBeginning tokens =
    IsNothing tokens ⊎ IsLone tokens
    ⊎ ((kind : Kind) × (symbols : List PlainToken) × IsBody tokens kind symbols) ⊎ IsInProof tokens

-- these tokens are whole statements, after which no block is open
pub record AreOutside (tokens : List PlainToken) : Type 0 where
  pub statements : List PlainStatement
  pub spelled : SpellsAll tokens statements
  pub closed : AreClosed statements

-- A prefix of the items that reads as these statements, followed by these tokens, which are a
-- beginning of one. No `$}` lacks its `${`. A file is included only outside of blocks and
-- statements; a file ends only where no statement is unfinished, and the top file only where no
-- block is open.
pub record Viable (prefix : List Item) (statements : List PlainStatement)
    (unfinished : List PlainToken) : Type 0 where
  pub clean : HoldNoFault prefix
  pub finished : List PlainToken
  pub whole : plain_tokens prefix ≡ finished ++ unfinished
  pub spelled : SpellsAll finished statements
  pub begun : IsBeginning unfinished
  pub balanced : AreBalanced statements
  pub included : (before after : List Item) (token : PlainToken)
      → prefix ≡ before ++ Inclusion token ∷ after
      → AreOutside (plain_tokens before)
  pub ended : (before after : List Item) (file : ℕ) → prefix ≡ before ++ End file ∷ after
      → (earlier : List PlainStatement) × SpellsAll (plain_tokens before) earlier
  pub top_ended : (before after : List Item) → prefix ≡ before ++ End 0 ∷ after
      → AreOutside (plain_tokens before)

-- the keyword that ends the symbols of a statement of this kind
abbrev pub closes_symbols : Kind → List ℕ
closes_symbols Provable = codes "$="
closes_symbols kind = codes "$."

-- S1: a keyword that begins no statement stands where one should begin
abbrev pub MeetsS1 : List PlainToken → PlainToken → Type 0
MeetsS1 unfinished t =
    IsNothing unfinished × IsKeyword t.text
    × (t.text ≢ keyword_of Constants) × (t.text ≢ keyword_of Variables)
    × (t.text ≢ keyword_of Distinct)
    × (t.text ≢ keyword_of Opening) × (t.text ≢ keyword_of Closing)

-- S2: a label holds another byte than a label may
abbrev pub MeetsS2 : List PlainToken → PlainToken → Type 0
MeetsS2 unfinished t = IsNothing unfinished × ¬ (IsKeyword t.text) × ¬ (IsLabel t.text)

-- S3: after a label comes no `$f`, `$e`, `$a` or `$p`
abbrev pub MeetsS3 : List PlainToken → PlainToken → Type 0
MeetsS3 unfinished t =
    IsLone unfinished
    × (t.text ≢ keyword_of Floating) × (t.text ≢ keyword_of Essential)
    × (t.text ≢ keyword_of Axiom) × (t.text ≢ keyword_of Provable)

-- S4: in a statement's body a keyword that can't stand there
abbrev pub MeetsS4 : List PlainToken → PlainToken → Type 0
MeetsS4 unfinished t =
    IsKeyword t.text
    × (((kind : Kind) × (symbols : List PlainToken) × IsBody unfinished kind symbols
    × (t.text ≢ closes_symbols kind))
    ⊎ (IsInProof unfinished × (t.text ≢ codes "$.")))

-- S5: the symbols are closed after too few of them, or a `$f` has a third one
abbrev pub MeetsS5 : List PlainToken → PlainToken → Type 0
MeetsS5 unfinished t =
    (kind : Kind) × (symbols : List PlainToken) × IsBody unfinished kind symbols
    × (((t.text ≡ closes_symbols kind) × ¬ (FitsCount kind (length symbols)))
    ⊎ (HoldsNoDollar t.text × (kind ≡ Floating) × (length symbols ≡ 2)))

-- S6: a `$}` with no block open
abbrev pub MeetsS6 : List PlainStatement → List PlainToken → PlainToken → Type 0
MeetsS6 statements unfinished t =
    IsNothing unfinished × (t.text ≡ keyword_of Closing) × AreClosed statements

-- the first of these rules that a token breaks after these statements and these tokens of an
-- unfinished one
abbrev pub Meets : List PlainStatement → List PlainToken → PlainToken → TextRule → Type 0
Meets statements unfinished t S1 = MeetsS1 unfinished t
Meets statements unfinished t S2 = MeetsS2 unfinished t
Meets statements unfinished t S3 = MeetsS3 unfinished t
Meets statements unfinished t S4 = MeetsS4 unfinished t
Meets statements unfinished t S5 = MeetsS5 unfinished t
Meets statements unfinished t S6 = MeetsS6 statements unfinished t
Meets statements unfinished t rule = ⊥

-- the fault of a token, which is met after these statements, in one of which these tokens came
-- before
abbrev pub fault_at : TextRule → PlainToken → List PlainStatement → List PlainToken → PlainFault
fault_at rule t statements unfinished =
    record {
      rule = rule;
      file = t.file;
      at = t.at;
      statement = length statements + 1;
      label =
          label_in unfinished;
    }

-- X6: a `$[` in a block or in a statement
abbrev pub MeetsX6 : List PlainStatement → List PlainToken → Type 0
MeetsX6 statements unfinished = (unfinished ≢ []) ⊎ ¬ (AreClosed statements)

-- X8: a file ends in a statement. The place is that of the statement's first token.
abbrev pub EndsInX8 : List PlainStatement → List PlainToken → PlainFault → Type 0
EndsInX8 statements unfinished fault =
    (first : PlainToken) × (others : List PlainToken) × (unfinished ≡ first ∷ others)
    × (fault ≡ fault_at X8 first statements unfinished)

-- S7: the top file ends with a block open. The place is that of the `${` of the innermost one, and
-- the statement is that `${`.
abbrev pub EndsInS7 : List PlainStatement → List PlainToken → ℕ → PlainFault → Type 0
EndsInS7 statements unfinished file fault =
    IsNothing unfinished × (file ≡ 0)
    × (before : List PlainStatement) × (opening : PlainStatement)
    × IsInnermost statements before opening
    × (fault ≡ fault_at S7 opening.first before [])

-- how a reading ends at the item after the longest viable prefix
abbrev pub EndsAt : List PlainStatement → List PlainToken → Item → PlainFault → Type 0
EndsAt statements unfinished (Plain t) fault =
    (rule : TextRule) × Meets statements unfinished t rule
    × (fault ≡ fault_at rule t statements unfinished)
EndsAt statements unfinished (Wrong rule t) fault = fault ≡ fault_at rule t statements unfinished
EndsAt statements unfinished (Inclusion t) fault =
    MeetsX6 statements unfinished × (fault ≡ fault_at X6 t statements unfinished)
EndsAt statements unfinished (End file) fault =
    EndsInX8 statements unfinished fault ⊎ EndsInS7 statements unfinished file fault

-- The statements that the items spell, and the fault that ends them, or none: those of a viable
-- prefix of the items that is all of them, or after which the next item is a fault.
abbrev pub ReadsAs : List Item → List PlainStatement → Option PlainFault → Type 0
ReadsAs its statements None =
    Viable its statements []
ReadsAs its statements (Some fault) =
    (prefix : List Item) × (item : Item) × (rest : List Item) × (unfinished : List PlainToken)
    × (its ≡ prefix ++ item ∷ rest) × Viable prefix statements unfinished
    × EndsAt statements unfinished item fault

-- the statements that the files hold, and the fault that ends them, or none
abbrev pub Reads : List PlainFile → List PlainStatement → Option PlainFault → Type 0
Reads files statements ending = ReadsAs (items files) statements ending

-- something is left to tell: a statement, or the fault that ends the reading
abbrev pub TellsMore : List PlainStatement → Option PlainFault → Type 0
TellsMore statements ending = (statements ≢ []) ⊎ (ending ≢ None)

-- a token's text is the slice of its file at its position
abbrev pub IsSliceOf : List PlainFile → PlainToken → Type 0
IsSliceOf files t =
    (file : PlainFile) × (slice_get files t.file ≡ Some file)
    × (slice_range file.bytes t.at (t.at + length t.text) ≡ t.text)

-- each token of a statement is
pub record IsInPlace (files : List PlainFile) (s : PlainStatement) : Type 0 where
  pub first : IsSliceOf files s.first
  pub label : IfSome s.label (IsSliceOf files)
  pub symbols : AllByRecursion (IsSliceOf files) s.symbols
  pub proof : AllByRecursion (IsSliceOf files) s.proof
