-- What a statement is taken as.
use Rattle.std.specs.Prelude.{◌≡◌, List, length}
use Rattle.mm_base.specs.declared.statement.Kind.{Kind}
use Rattle.mm_base.specs.declared.statement.Kind.TheVariants as kinds
use Rattle.mm_frame.specs.declared.answer.Taken.{Taken}
use Rattle.mm_frame.specs.declared.answer.Taken.TheVariants.{Opened, Closed, Declared, Hypothesis}
use Rattle.mm_frame.specs.declared.answer.Taken.TheVariants.{Assertion}
use Rattle.mm_frame.specs.declared.number.LabelKind.{LabelKind}
use Rattle.mm_frame.specs.declared.number.LabelKind.TheVariants as label_kinds
use Rattle.mm_frame.specs.declared.number.LabelId.{LabelId}
use Rattle.mm_frame.specs.Sentence.{Sentence}
use Rattle.mm_frame.specs.Numbers.{labelled_sentences}

-- the number of the label that comes after these statements
abbrev pub next_id : List Sentence → LabelId
next_id before = record { 0 = length (labelled_sentences before) }

-- the answer to a statement of a kind after these: for one with a label, the label's number
abbrev pub TakenAs : List Sentence → Kind → Taken → Type 0
TakenAs before kinds.Opening taken = taken ≡ Opened
TakenAs before kinds.Closing taken = taken ≡ Closed
TakenAs before kinds.Constants taken = taken ≡ Declared
TakenAs before kinds.Variables taken = taken ≡ Declared
TakenAs before kinds.Distinct taken = taken ≡ Declared
TakenAs before kinds.Floating taken = taken ≡ Hypothesis (next_id before)
TakenAs before kinds.Essential taken = taken ≡ Hypothesis (next_id before)
TakenAs before kinds.Axiom taken = taken ≡ Assertion (next_id before)
TakenAs before kinds.Provable taken = taken ≡ Assertion (next_id before)

-- the kind of statement that a kind of label stands for
abbrev pub kind_behind : LabelKind → Kind
kind_behind label_kinds.Floating = kinds.Floating
kind_behind label_kinds.Essential = kinds.Essential
kind_behind label_kinds.Axiom = kinds.Axiom
kind_behind label_kinds.Proof = kinds.Provable
