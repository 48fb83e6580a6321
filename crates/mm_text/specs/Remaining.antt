-- What a reader has still to give.
use Rattle.std.specs.Prelude.{◌≡◌, ◌≤◌, sum_by, List, [], ◌∷◌, Bool, true, false, Option, Some}
use Rattle.std.specs.Prelude.{None, Result, Ok, Err, option_map, ◌⊎◌}
use Rattle.mm_text.specs.declared.fault.LoadRule.{LoadRule}
use Rattle.mm_text.specs.declared.fault.TextFault.{TextFault}
use Rattle.mm_text.specs.declared.fault.TextFault.TheVariants.{Load, Fault, Memory}
use Rattle.mm_base.specs.Token.{plain_token}
use Rattle.mm_base.specs.Statement.{PlainStatement, bytes_in}
use Rattle.mm_base.specs.Blocks.{AreBalanced}
use Rattle.mm_text.specs.Files.{PlainFile, total_bytes, BreaksLoad}
use Rattle.mm_text.specs.Reading.{PlainFault, Reads, TellsMore}

-- The statements of the files that weren't given yet, and the fault that ends them; whether a
-- growth was refused, after which nothing is given; and whether the end, a fault or lack of memory
-- was answered.
pub record Remaining : Type 0 where
  pub files : List PlainFile
  pub statements : List PlainStatement
  pub ending : Option PlainFault
  pub refused : Bool
  pub told : Bool

-- Nothing of the files was given yet: all that their reading says is left. No `$}` of it lacks its
-- `${`, and the first tokens, symbols and proofs of its statements have no more bytes than the
-- files.
pub record IsUnread (files : List PlainFile) (s : Remaining) : Type 0 where
  pub same : s.files ≡ files
  pub reads : Reads files s.statements s.ending
  pub balanced : AreBalanced s.statements
  pub fits : sum_by bytes_in s.statements ≤ total_bytes files
  pub refused : s.refused ≡ false
  pub told : s.told ≡ false

-- What is answered to handed files: a reader of all that they hold, where they break no rule as a
-- whole; the first rule that they break; or lack of memory.
abbrev pub Begins : List PlainFile → Result Remaining TextFault → Type 0
Begins files (Ok s) = ((rule : LoadRule) → ¬ (BreaksLoad files rule)) × IsUnread files s
Begins files (Err (Load rule)) = BreaksLoad files rule
Begins files (Err Memory) = Unit {0}
Begins files (Err (Fault rule file at statement label)) = ⊥

-- a statement that holds no token in its lists
pub record IsEmpty (s : PlainStatement) : Type 0 where
  pub symbols : s.symbols ≡ []
  pub proof : s.proof ≡ []

-- What a call of `read` answers, and what it leaves: the next statement, the end, the fault, or
-- lack of memory. This is answered for good, and is new only where a statement was left to give, or
-- a fault that wasn't told.
abbrev pub Gives : Remaining → Result Bool TextFault → Remaining → PlainStatement → Type 0
Gives old (Ok true) new into =
    (old.refused ≡ false) × (old.told ≡ false) × (old.statements ≡ into ∷ new.statements)
    × (new ≡ record old { statements = new.statements })
Gives old (Ok false) new into =
    (old.refused ≡ false) × (old.statements ≡ []) × (old.ending ≡ None)
    × (new ≡ record old { told = true }) × IsEmpty into
Gives old (Err (Fault rule file at statement label)) new into =
    (old.refused ≡ false) × (old.statements ≡ [])
    × (old.ending
    ≡ Some (record {
      rule = rule;
      file = file;
      at = at;
      statement = statement;
      label =
          option_map plain_token label;
    }))
    × (new ≡ record old { told = true }) × IsEmpty into
Gives old (Err Memory) new into =
    ((old.refused ≡ true) ⊎ ((old.told ≡ false) × TellsMore old.statements old.ending))
    × (new ≡ record old { statements = []; ending = None; refused = true; told = true })
    × IsEmpty into
Gives old (Err (Load rule)) new into = ⊥

-- What reading on gives: the next statement; or that none is left, at the end or at the fault. The
-- ending can still be asked for.
abbrev pub ReadsOn : Remaining → Bool → PlainStatement → Remaining → Type 0
ReadsOn old true s new =
    (old.statements ≡ s ∷ new.statements) × (new ≡ record old { statements = new.statements })
ReadsOn old false s new = (old.statements ≡ []) × (new ≡ record old { told = true })
