-- The plain reader that the code computes: one token after the other, with what is unfinished. This
-- file mirrors the code, and is cited by private contracts alone: that it gives the reading of the
-- files is proved apart from the code, and public clauses speak of the reading.
use Rattle.std.specs.Prelude.{ℕ, ◌+◌, ◌==◌, nat_le, List, [], ◌∷◌, ◌++◌, length, Bool, true}
use Rattle.std.specs.Prelude.{false, if◌then◌else◌, codes, drop, ◌&&◌, Option, Some, None}
use Rattle.std.specs.Prelude.{option_map}
use Rattle.std.specs.Option.{is_none}
use Rattle.std.specs.List.{list_any}
use Rattle.mm_base.specs.Spelling.{spells}
use Rattle.mm_text.specs.declared.fault.TextRule.{TextRule}
use Rattle.mm_text.specs.declared.fault.TextRule.TheVariants.{X6, X8, S1, S2, S3, S4, S5, S6, S7}
use Rattle.mm_text.specs.declared.scope.OpenBlock.{OpenBlock}
use Rattle.mm_base.specs.declared.statement.Kind.{Kind}
use Rattle.mm_base.specs.declared.statement.Kind.TheVariants.{Constants, Variables, Distinct}
use Rattle.mm_base.specs.declared.statement.Kind.TheVariants.{Floating, Essential, Axiom, Provable}
use Rattle.mm_base.specs.declared.statement.Kind.TheVariants.{Opening, Closing}
use Rattle.mm_base.specs.Token.{PlainToken, is_label}
use Rattle.mm_base.specs.Statement.{PlainStatement, keywords, is_provable}
use Rattle.mm_text.specs.Items.{Item, Plain, Wrong, Inclusion, End}
use Rattle.mm_text.specs.Reading.{PlainFault}
use Rattle.mm_base.specs.Begun.{bare_statement}

-- the statement of which tokens were read: none yet, a label, its symbols so far, or its proof so
-- far
pub data Part : Type 0 where
  Between : Part
  Labelled : (label : PlainToken) → Part
  InBody : (statement : PlainStatement) → Part
  InProof : (statement : PlainStatement) → Part

-- what a token makes of it
pub data Step : Type 0 where
  More : (part : Part) → Step
  Whole : (statement : PlainStatement) → Step
  Opened : Step
  Closed : Step
  Faulty : (rule : TextRule) → Step

abbrev pub is_keyword : List ℕ → Bool
is_keyword text = list_any (spells text) keywords

-- the token that begins a statement
abbrev pub at_start : PlainToken → Step
at_start t =
    if spells t.text (codes "$c") then More (InBody (bare_statement Constants t None))
    else (if spells t.text (codes "$v") then More (InBody (bare_statement Variables t None))
    else (if spells t.text (codes "$d") then More (InBody (bare_statement Distinct t None))
    else (if spells t.text (codes "${") then Opened
    else (if spells t.text (codes "$}") then Closed
    else (if is_keyword t.text then Faulty S1
    else (if is_label t.text then More (Labelled t) else Faulty S2))))))

-- the token after a label
abbrev pub after_label : PlainToken → PlainToken → Step
after_label label t =
    if spells t.text (codes "$f") then More (InBody (bare_statement Floating label (Some label)))
    else (if spells t.text (codes "$e") then More
    (InBody (bare_statement Essential label (Some label)))
    else (if spells t.text (codes "$a") then More
    (InBody (bare_statement Axiom label (Some label)))
    else (if spells t.text (codes "$p") then More
    (InBody (bare_statement Provable label (Some label)))
    else Faulty S3)))

-- whether a statement of a kind may have so many symbols
abbrev pub has_count : Kind → ℕ → Bool
has_count Constants n = nat_le 1 n
has_count Variables n = nat_le 1 n
has_count Distinct n = nat_le 2 n
has_count Floating n = n == 2
has_count Essential n = nat_le 1 n
has_count Axiom n = nat_le 1 n
has_count Provable n = nat_le 1 n
has_count Opening n = n == 0
has_count Closing n = n == 0

-- whether another symbol is one too many
abbrev pub is_full : Kind → ℕ → Bool
is_full Floating n = n == 2
is_full kind n = false

-- the token after symbols
abbrev pub in_body : PlainStatement → PlainToken → Step
in_body s t =
    if is_keyword t.text
    then (if spells t.text (if is_provable s.kind then codes "$=" else codes "$.")
    then (if has_count s.kind (length s.symbols)
    then (if is_provable s.kind then More (InProof (record s { span = (t.at + 2, 0) }))
    else Whole s)
    else Faulty S5)
    else Faulty S4)
    else (if is_full s.kind (length s.symbols) then Faulty S5
    else More (InBody (record s { symbols = s.symbols ++ t ∷ [] })))

-- the token after steps of a proof
abbrev pub in_proof : PlainStatement → PlainToken → Step
in_proof s t =
    if is_keyword t.text
    then (if spells t.text (codes "$.") then Whole (record s { span = (s.span.0, t.at) })
    else Faulty S4)
    else More (InProof (record s { proof = s.proof ++ t ∷ [] }))

unfoldable pub step : Part → PlainToken → Step
step Between t = at_start t
step (Labelled label) t = after_label label t
step (InBody s) t = in_body s t
step (InProof s) t = in_proof s t

-- the label of what is unfinished, and its first token
abbrev pub part_label : Part → Option PlainToken
part_label Between = None
part_label (Labelled label) = Some label
part_label (InBody s) = s.label
part_label (InProof s) = s.label

abbrev pub part_first : Part → Option PlainToken
part_first Between = None
part_first (Labelled label) = Some label
part_first (InBody s) = Some s.first
part_first (InProof s) = Some s.first

-- the statements of a text and the fault that ends them, or none
pub record PlainReading : Type 0 where
  pub statements : List PlainStatement
  pub ending : Option PlainFault

abbrev pub only_ending : Option PlainFault → PlainReading
only_ending ending = record { statements = []; ending = ending }

abbrev pub with_statement : PlainStatement → PlainReading → PlainReading
with_statement s reading = record { statements = s ∷ reading.statements; ending = reading.ending }

-- what is kept of the statements that were read: how many they are, and the open blocks, the
-- innermost one first
pub record PlainScope : Type 0 where
  pub count : ℕ
  pub blocks : List OpenBlock

abbrev pub outermost : PlainScope
outermost = record { count = 0; blocks = [] }

-- one more statement was read: one with symbols, a `${` or a `$}`
abbrev pub scope_after_statement : PlainScope → PlainScope
scope_after_statement scope = record { count = scope.count + 1; blocks = scope.blocks }

abbrev pub scope_after_opening : PlainScope → PlainToken → PlainScope
scope_after_opening scope t =
    record {
      count = scope.count + 1;
      blocks =
          record { file = t.file; at = t.at; statement = scope.count + 1 } ∷ scope.blocks;
    }

abbrev pub scope_after_closing : PlainScope → PlainScope
scope_after_closing scope = record { count = scope.count + 1; blocks = drop 1 scope.blocks }

-- the fault of a token after what is unfinished
abbrev pub fault_in : PlainScope → Part → TextRule → PlainToken → PlainFault
fault_in scope part rule t =
    record {
      rule = rule;
      file = t.file;
      at = t.at;
      statement = scope.count + 1;
      label =
          part_label part;
    }

-- the fault of a file that ends in what is unfinished
abbrev pub unfinished_fault : PlainScope → Part → Option PlainFault
unfinished_fault scope part = option_map (fault_in scope part X8) (part_first part)

-- the fault of a top file that ends in a block
abbrev pub block_fault : List OpenBlock → Option PlainFault
block_fault [] = None
block_fault (block ∷ blocks) =
    Some (record {
      rule = S7;
      file = block.file;
      at = block.at;
      statement = block.statement;
      label =
          None;
    })

-- the fault of a file that ends
abbrev pub end_fault : PlainScope → Part → ℕ → Option PlainFault
end_fault scope part file =
    elim (unfinished_fault scope part) [
      | Some fault ↦ Some fault
      | None ↦
          if file == 0 then block_fault scope.blocks else None
    ]

abbrev pub has_none : List OpenBlock → Bool
has_none [] = true
has_none (block ∷ blocks) = false

-- what stands before is whole statements, and each block is closed
abbrev pub is_outside : PlainScope → Part → Bool
is_outside scope part = is_none (part_first part) && has_none scope.blocks

-- the fault of an inclusion
abbrev pub inclusion_fault : PlainScope → Part → PlainToken → Option PlainFault
inclusion_fault scope part t =
    if is_outside scope part then None else Some (fault_in scope part X6 t)

-- what follows, where there is no fault
abbrev pub unless : Option PlainFault → PlainReading → PlainReading
unless None reading = reading
unless (Some fault) reading = only_ending (Some fault)

-- what the items that are left give, after these statements and what is unfinished
unfoldable pub reading_of : PlainScope → Part → List Item → PlainReading
reading_of scope part [] = only_ending (unfinished_fault scope part)
reading_of scope part (End file ∷ items) =
    unless (end_fault scope part file) (reading_of scope part items)
reading_of scope part (Wrong rule t ∷ items) = only_ending (Some (fault_in scope part rule t))
reading_of scope part (Inclusion t ∷ items) =
    unless (inclusion_fault scope part t) (reading_of scope part items)
reading_of scope part (Plain t ∷ items) = elim (step part t) [
  | More next ↦ reading_of scope next items
  | Whole s ↦ with_statement s (reading_of (scope_after_statement scope) Between items)
  | Opened ↦
      with_statement (bare_statement Opening t None)
      (reading_of (scope_after_opening scope t) Between items)
  | Closed ↦
      if has_none scope.blocks
      then only_ending (Some (fault_in scope part S6 t))
      else with_statement (bare_statement Closing t None)
      (reading_of (scope_after_closing scope) Between items)
  | Faulty rule ↦ only_ending (Some (fault_in scope part rule t))
]
