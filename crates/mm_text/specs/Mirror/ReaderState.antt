-- What the fields of a reader say of what it has still to give. This file mirrors the code, and is
-- cited by private contracts and the reader's model and invariant.
use Rattle.std.specs.Prelude.{◌≡◌, ℕ, ◌+◌, ◌≤◌, length, List, [], Bool, true, false, Some, None}
use Rattle.std.specs.Prelude.{Result, Ok, Err, map}
use Rattle.std.specs.List.{AllByRecursion}
use Rattle.mm_text.specs.declared.fault.TextFault.{TextFault}
use Rattle.mm_text.specs.declared.fault.TextFault.TheVariants.{Load, Fault, Memory}
use Rattle.mm_text.specs.declared.statements.State.{State}
use Rattle.mm_text.specs.declared.statements.State.TheVariants.{Reading, Ended, Failed}
use Rattle.mm_text.specs.declared.statements.Statements.TheInside.{Inside}
use Rattle.mm_base.specs.Statement.{PlainStatement, HasForm}
use Rattle.mm_base.specs.MostBytes.{most_bytes}
use Rattle.mm_text.specs.Files.{PlainFile, plain_file}
use Rattle.mm_text.specs.Items.{Item}
use Rattle.mm_text.specs.Mirror.Reader.{PlainReading, PlainScope, Between, reading_of}
use Rattle.mm_text.specs.Reading.{IsInPlace}
use Rattle.mm_text.specs.Remaining.{Remaining}
use Rattle.mm_text.specs.Mirror.Steps.{fault_of, plain_scope, GivesStatement}

-- what is left in a state, where reading on would give this
abbrev pub remaining_in : State → List PlainFile → PlainReading → Remaining
remaining_in Reading files reading =
    record {
      files = files;
      statements = reading.statements;
      ending = reading.ending;
      refused =
          false;
      told = false;
    }
remaining_in Ended files reading =
    record { files = files; statements = []; ending = None; refused = false; told = true }
remaining_in (Failed (Fault rule file at statement label)) files reading =
    record {
      files = files;
      statements = [];
      ending =
          Some (fault_of rule file at statement label);
      refused = false;
      told = true;
    }
remaining_in (Failed Memory) files reading =
    record { files = files; statements = []; ending = None; refused = true; told = true }
remaining_in (Failed (Load rule)) files reading =
    record { files = files; statements = []; ending = None; refused = true; told = true }

-- what a reader has still to give
abbrev pub remaining_of : Inside → Remaining
remaining_of s =
    remaining_in s.state (map plain_file s.files.now)
    (reading_of (plain_scope s.scope) Between s.cursor)

-- a fault that a reader may answer: the files are judged as a whole before there is one
abbrev pub IsAnswerable : State → Type 0
IsAnswerable Reading = Unit {0}
IsAnswerable Ended = Unit {0}
IsAnswerable (Failed (Fault rule file at statement label)) = Unit {0}
IsAnswerable (Failed Memory) = Unit {0}
IsAnswerable (Failed (Load rule)) = ⊥

-- while statements are read, those that were read and those that are left are few
abbrev pub AreFew : State → ℕ → ℕ → Type 0
AreFew Reading count left = count + left ≤ most_bytes
AreFew Ended count left = Unit {0}
AreFew (Failed fault) count left = Unit {0}

-- each statement is formed by the grammar, each of its tokens holds a byte, and is the slice of its
-- file at its position
pub record AreFormedInPlace (files : List PlainFile)
    (statements : List PlainStatement) : Type 0 where
  pub formed : AllByRecursion HasForm statements
  pub in_place : AllByRecursion (IsInPlace files) statements

-- What holds of the fields of each reader: what is left to give is formed and stands in the files,
-- and the numbers of the statements stay small.
pub record IsReader (s : Inside) : Type 0 where
  pub answerable : IsAnswerable s.state
  pub formed_in_place : AreFormedInPlace (map plain_file s.files.now) (remaining_of s).statements
  pub few : AreFew s.state s.scope.count (length (remaining_of s).statements)

-- what a call answers in a state
abbrev pub AnswersIn : State → PlainScope → List Item → Result Bool TextFault → PlainStatement
    → PlainScope → List Item → Type 0
AnswersIn Reading scope old r into later new = GivesStatement scope old r into later new
AnswersIn Ended scope old r into later new = r ≡ Ok false
AnswersIn (Failed fault) scope old r into later new = r ≡ Err fault
