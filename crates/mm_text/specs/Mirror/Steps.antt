-- What the parts of the reader's code answer, in the words of the plain reader. This file mirrors
-- the code, and is cited by private contracts alone.
use Rattle.std.specs.Prelude.{◌≡◌, ℕ, ◌+◌, ◌<◌, List, ◌∷◌, Bool, true, false, Option, Some, None}
use Rattle.std.specs.Prelude.{Result, Ok, Err, option_map, codes, reverse, if◌then◌else◌}
use Rattle.mm_base.specs.Spelling.{spells}
use Rattle.mm_base.specs.declared.token.Token.{Token}
use Rattle.mm_text.specs.declared.scope.Scope.{Scope}
use Rattle.mm_text.specs.declared.class.Keyword.{Keyword}
use Rattle.mm_text.specs.declared.class.Keyword.TheVariants as keyword
use Rattle.mm_text.specs.declared.class.Class.{Class}
use Rattle.mm_text.specs.declared.fault.TextRule.{TextRule}
use Rattle.mm_text.specs.declared.fault.TextFault.{TextFault}
use Rattle.mm_text.specs.declared.fault.TextFault.TheVariants.{Load, Fault, Memory}
use Rattle.mm_base.specs.declared.statement.Kind.{Kind}
use Rattle.mm_base.specs.declared.statement.Kind.TheVariants as kind
use Rattle.mm_text.specs.Mirror.Class.{keyword_bytes}
use Rattle.mm_base.specs.Token.{PlainToken, plain_token, HoldsNoDollar}
use Rattle.mm_base.specs.Statement.{PlainStatement}
use Rattle.mm_text.specs.Items.{Item, Plain}
use Rattle.mm_text.specs.Mirror.Next.{items_with, IsOfClass}
use Rattle.mm_text.specs.Reading.{PlainFault, TellsMore}
use Rattle.mm_text.specs.Mirror.Reader.{PlainReading, PlainScope, Part, Between, step, More, Faulty}
use Rattle.mm_text.specs.Mirror.Reader.{part_first, part_label, fault_in, has_none}
use Rattle.mm_text.specs.Mirror.Reader.{scope_after_statement, scope_after_opening}
use Rattle.mm_text.specs.Mirror.Reader.{scope_after_closing, reading_of}
use Rattle.mm_base.specs.Statement.{is_provable}
use Rattle.mm_text.specs.Mirror.Reader.{only_ending, with_statement}
use Rattle.mm_base.specs.MostBytes.{most_bytes}

-- what its keyword, or that it is none, tells of a token
abbrev pub IsSign : PlainToken → Option Keyword → Type 0
IsSign t (Some keyword) = t.text ≡ keyword_bytes keyword
IsSign t None = HoldsNoDollar t.text

-- the next token, which breaks no rule by itself, is the first of the items, and those after it are
-- left
pub record TakesPlain (old : List Item) (t : PlainToken) (sign : Option Keyword)
    (new : List Item) : Type 0 where
  pub first : old ≡ Plain t ∷ new
  pub text : IsSign t sign
  pub at : t.at < most_bytes

-- the fault in a text, without where its label lies in memory
abbrev pub fault_of : TextRule → ℕ → ℕ → ℕ → Option Token → PlainFault
fault_of rule file at statement label =
    record {
      rule = rule;
      file = file;
      at = at;
      statement = statement;
      label =
          option_map plain_token label;
    }

-- A fault that a part of the reader answers ends the reading. Lack of memory may be answered of any
-- reading that has something to tell.
abbrev pub AnswersFault : PlainReading → TextFault → Type 0
AnswersFault reading (Fault rule file at statement label) =
    reading ≡ only_ending (Some (fault_of rule file at statement label))
AnswersFault reading Memory = TellsMore reading.statements reading.ending
AnswersFault reading (Load rule) = ⊥

-- the next token of an unfinished statement with this first token and this label; or the fault that
-- ends the reading
abbrev pub TakesWithin : PlainScope → PlainToken → Option PlainToken → List Item
    → Result (Token × Option Keyword) TextFault → List Item → Type 0
TakesWithin scope first label old (Ok found) new = TakesPlain old (plain_token found.0) found.1 new
TakesWithin scope first label old (Err fault) new =
    (part : Part) → part_first part ≡ Some first → part_label part ≡ label
    → AnswersFault (reading_of scope part old) fault

-- A part of the reader read on, and the reading is the same; or it met the fault that ends it.
abbrev pub ReadsOn : PlainReading → Result Unit TextFault → PlainReading → Type 0
ReadsOn old (Ok unit) new = old ≡ new
ReadsOn old (Err fault) new = AnswersFault old fault

-- what a part of the reader answers of the reading that it is in, by its result
abbrev pub AnswersPart : PlainScope → PlainReading → Result Unit TextFault → PlainStatement
    → List Item → Type 0
AnswersPart scope reading (Ok unit) into new =
    reading ≡ with_statement into (reading_of (scope_after_statement scope) Between new)
AnswersPart scope reading (Err fault) into new = AnswersFault reading fault

-- A part of the reader read on in the items up to the end of a statement, and those are left; or it
-- met the fault that ends the reading. The scope is that before the statement.
pub record GivesPart (scope : PlainScope) (reading : PlainReading) (r : Result Unit TextFault)
    (into : PlainStatement) (new : List Item) : Type 0 where
  pub answer : AnswersPart scope reading r into new

-- the first token of a statement, or that nothing is left but inclusions and ends; or the fault
-- that ends the reading
abbrev pub TakesFirst : PlainScope → List Item → Result (Option (Token × Class)) TextFault
    → List Item → Type 0
TakesFirst scope old (Ok (Some found)) new =
    (reading_of scope Between old
    ≡ reading_of scope Between (items_with (plain_token found.0) found.1 new))
    × IsOfClass (plain_token found.0) found.1
TakesFirst scope old (Ok None) new = reading_of scope Between old ≡ only_ending None
TakesFirst scope old (Err fault) new = AnswersFault (reading_of scope Between old) fault

-- the statement that the items begin with, and what follows it
abbrev pub GivesFirst : PlainScope → List Item → Result Unit TextFault → PlainStatement → PlainScope
    → List Item → Type 0
GivesFirst scope old (Ok unit) into later new =
    (reading_of scope Between old ≡ with_statement into (reading_of later Between new))
    × (later.count ≡ scope.count + 1)
GivesFirst scope old (Err fault) into later new = AnswersFault (reading_of scope Between old) fault

-- the next statement, and what follows it; or that there is none
abbrev pub GivesStatement : PlainScope → List Item → Result Bool TextFault → PlainStatement
    → PlainScope → List Item → Type 0
GivesStatement scope old (Ok true) into later new =
    (reading_of scope Between old ≡ with_statement into (reading_of later Between new))
    × (later.count ≡ scope.count + 1)
GivesStatement scope old (Ok false) into later new = reading_of scope Between old ≡ only_ending None
GivesStatement scope old (Err fault) into later new =
    AnswersFault (reading_of scope Between old) fault

-- what one token makes of an unfinished statement
abbrev pub StepsTo : PlainScope → Part → PlainToken → Result Unit TextFault → Part → Type 0
StepsTo scope part t (Ok unit) next = step part t ≡ More next
StepsTo scope part t (Err (Fault rule file at statement label)) next =
    (step part t ≡ Faulty rule)
    × (fault_in scope part rule t ≡ fault_of rule file at statement label)
StepsTo scope part t (Err Memory) next = Unit {0}
StepsTo scope part t (Err (Load rule)) next = ⊥

-- the scope of a reader, without where it lies in memory
abbrev pub plain_scope : Scope → PlainScope
plain_scope scope = record { count = scope.count; blocks = reverse scope.blocks.items }

-- what a block that is opened, or closed, makes of a scope
abbrev pub Opens : PlainScope → PlainToken → Result Unit TextFault → PlainScope → Type 0
Opens old t (Ok unit) new = new ≡ scope_after_opening old t
Opens old t (Err fault) new = fault ≡ Memory

abbrev pub Closes : PlainScope → Bool → PlainScope → Type 0
Closes old false new = (has_none old.blocks ≡ true) × (new ≡ old)
Closes old true new =
    (has_none old.blocks ≡ false) × (new ≡ scope_after_closing old)

-- a fault that is answered, or none
abbrev pub TellsFault : Option PlainFault → Option TextFault → Type 0
TellsFault fault None = fault ≡ None
TellsFault fault (Some (Fault rule file at statement label)) =
    fault ≡ Some (fault_of rule file at statement label)
TellsFault fault (Some Memory) = ⊥
TellsFault fault (Some (Load rule)) = ⊥

-- a `${` or a `$}`
abbrev pub is_block_sign : Keyword → Bool
is_block_sign keyword.Opening = true
is_block_sign keyword.Closing = true
is_block_sign other = false

-- the kind of statement with symbols that begins with a keyword, without a label
abbrev pub bare_kind : Keyword → Option Kind
bare_kind keyword.Constants = Some kind.Constants
bare_kind keyword.Variables = Some kind.Variables
bare_kind keyword.Distinct = Some kind.Distinct
bare_kind other = None

-- the kind of statement that begins with a label and a keyword
abbrev pub labelled_kind : Keyword → Option Kind
labelled_kind keyword.Floating = Some kind.Floating
labelled_kind keyword.Essential = Some kind.Essential
labelled_kind keyword.Axiom = Some kind.Axiom
labelled_kind keyword.Provable = Some kind.Provable
labelled_kind other = None

-- whether a keyword ends the symbols of a kind of statement
abbrev pub ends_symbols : Kind → Keyword → Bool
ends_symbols kind keyword =
    spells (keyword_bytes keyword) (if is_provable kind then codes "$=" else codes "$.")
