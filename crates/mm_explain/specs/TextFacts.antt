-- What explains a fault of the text: the token at fault; what is missing before it, for S1 and S4
-- where these two tell that; and places, where some are told: for S6 where the last block is closed;
-- else where the comment, the inclusion or the statement began in which the token stands. The files
-- up to the token tell that: they end in what isn't closed there. For X6 it is also told where the
-- innermost open block begins. The facts are this project's own.
use Rattle.std.specs.Prelude.{◌≡◌, ℕ, ◌-◌, ◌==◌, ◌&&◌, if◌then◌else◌, List, ◌∷◌, map, not, filter}
use Rattle.std.specs.Prelude.{length, drop, take, slice_get, take_while, Bool, true, false, Option}
use Rattle.std.specs.Prelude.{Some, None, [], ◌++◌, ◌⊎◌, ◌||◌, codes}
use Rattle.std.specs.Str.{bytes_eq}
use Rattle.std.specs.Option.{option_to_list}
use Rattle.mm_text.specs.declared.fault.TextRule.{TextRule}
use Rattle.mm_text.specs.declared.fault.TextRule.TheVariants.{X2, X5, X6, X8, S1, S4, S6}
use Rattle.mm_base.specs.Token.{PlainToken, is_space}
use Rattle.mm_base.specs.Statement.{PlainStatement}
use Rattle.mm_base.specs.Blocks.{is_closing, AreClosed, IsInnermost}
use Rattle.mm_text.specs.Files.{PlainFile}
use Rattle.mm_text.specs.Reading.{PlainFault, Reads}
use Rattle.mm_text.specs.Replaced.{with_bytes}
use Rattle.mm_rules.specs.Verdict.{PlainRefusal, text_refusal}
use Rattle.mm_facts.specs.Explained.{Detail, token_at_fault, begun_at}
use Rattle.mm_facts.specs.Explained.{last_closed_at, missing_before}
use Rattle.mm_rules.specs.Places.{bytes_of, place_of, place_text, token_place}
use Rattle.mm_explain.specs.Source.{opened_block}

-- the token that begins at a position: the bytes from there up to the next white space
abbrev pub token_from : (bytes : List ℕ) → (at : ℕ) → List ℕ
token_from bytes at = take_while (λ b. not (is_space b)) (drop at bytes)

-- the files, that with the number up to a position alone
abbrev pub files_up_to : List PlainFile → (file at : ℕ) → List PlainFile
files_up_to files file at = with_bytes files file (take at (bytes_of files file))

-- whether the rule is broken where a comment, an inclusion or a statement isn't closed at the end of
-- its file; the place of that fault is where it began
abbrev pub is_of_unclosed : TextRule → Bool
is_of_unclosed X2 = true
is_of_unclosed X5 = true
is_of_unclosed X8 = true
is_of_unclosed rule = false

-- where began what isn't closed at the end of this file, by the fault that ends the reading
abbrev pub unclosed_in : (file : ℕ) → Option PlainFault → Option ℕ
unclosed_in file None = None
unclosed_in file (Some fault) =
    if fault.file == file && is_of_unclosed fault.rule then Some fault.at else None

-- whether the token is the keyword of a statement that has a label
abbrev pub is_labelled : List ℕ → Bool
is_labelled token =
    bytes_eq token (codes "$f") || bytes_eq token (codes "$e") || bytes_eq token (codes "$a")
    || bytes_eq token (codes "$p")

-- the last one
abbrev pub last_of : {X : Type 0} → List X → Option X
last_of xs = slice_get xs (length xs - 1)

-- the tokens of the `$}` among statements
abbrev pub closing_tokens : List PlainStatement → List PlainToken
closing_tokens statements = map (λ s. s.first) (filter (λ s. is_closing s.kind) statements)

-- where what isn't closed in this file began, if such is there
abbrev pub places_begun : List PlainFile → (file : ℕ) → (begin : Option ℕ) → List Detail
places_begun files file begin =
    map (λ at. begun_at (place_text files (place_of files file at))) (option_to_list begin)

-- where the last block is closed, if one is
abbrev pub blocks_closed : List PlainFile → (closed : Option PlainToken) → List Detail
blocks_closed files closed = map (λ t. last_closed_at (token_place files t)) (option_to_list closed)

-- where an open block begins, if there is one
abbrev pub blocks_opened : (source : Bool) → List PlainFile → (opening : Option PlainToken)
    → List Detail
blocks_opened source files opening = map (opened_block source files) (option_to_list opening)

-- where the innermost block begins that is open after these statements, if one is
abbrev pub AreBlocksOpened : (source : Bool) → List PlainFile → List PlainStatement → List Detail
    → Type 0
AreBlocksOpened source files statements details =
    (AreClosed statements × (details ≡ []))
    ⊎ ((outer : List PlainStatement) × (opening : PlainStatement)
    × IsInnermost statements outer opening
    × (details ≡ opened_block source files opening.first ∷ []))

-- where the comment, the inclusion or the statement began in which the fault stands, if it stands in
-- one: that isn't closed in the files up to the fault
abbrev pub AreBegun : List PlainFile → PlainFault → List Detail → Type 0
AreBegun files fault details =
    (earlier : List PlainStatement) × (ending : Option PlainFault)
    × Reads (files_up_to files fault.file fault.at) earlier ending
    × (details ≡ places_begun files fault.file (unclosed_in fault.file ending))

-- The facts of places: for S6 where the last block is closed; else where what the fault stands in
-- began, and for X6 then where the innermost open block begins.
abbrev pub AreOrigins : (source : Bool) → List PlainFile → List PlainStatement → PlainFault
    → TextRule → List Detail → Type 0
AreOrigins source files statements fault S6 details =
    details ≡ blocks_closed files (last_of (closing_tokens statements))
AreOrigins source files statements fault X6 details =
    (begun : List Detail) × (opened : List Detail) × AreBegun files fault begun
    × AreBlocksOpened source files statements opened × (details ≡ begun ++ opened)
AreOrigins source files statements fault rule details = AreBegun files fault details

-- What is missing before the token at which the rule is broken, where the two tell that: the label
-- of a `$f`, `$e`, `$a` or `$p`; the `$=` of a `$p` before its `$.`; the `$.` of a statement before
-- another keyword. A `$=` may be one too many.
abbrev pub missing : TextRule → (token : List ℕ) → Option (List ℕ)
missing S1 token = if is_labelled token then Some (codes "a label") else None
missing S4 token =
    if bytes_eq token (codes "$.") then Some (codes "$=")
    else if bytes_eq token (codes "$=") then None else Some (codes "$.")
missing rule token = None

-- that fact
abbrev pub missing_facts : TextRule → (token : List ℕ) → List Detail
missing_facts rule token = map missing_before (option_to_list (missing rule token))

-- The facts that explain the refusal for the fault of the text, in order, and the position that is
-- told.
pub record AreTextFacts (source : Bool) (files : List PlainFile) (refusal : PlainRefusal) (at : ℕ)
    (details : List Detail) : Type 0 where
  pub statements : List PlainStatement
  pub fault : PlainFault
  pub reads : Reads files statements (Some fault)
  pub refused : refusal ≡ text_refusal files fault
  pub there : at ≡ fault.at
  pub origins : List Detail
  pub begun : AreOrigins source files statements fault fault.rule origins
  pub told : details ≡ token_at_fault (token_from (bytes_of files fault.file) fault.at)
      ∷ (missing_facts fault.rule (token_from (bytes_of files fault.file) fault.at) ++ origins)
