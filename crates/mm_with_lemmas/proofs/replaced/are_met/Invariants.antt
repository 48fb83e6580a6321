-- The new proofs so far stand in place of those of theorems that were met.
use Rattle.std.proofs.Common.{◌≡◌, ◌≤◌, List, ◌++◌, length, map, take}
use Rattle.mm_base.specs.Statement.{PlainStatement}
use Rattle.mm_text.specs.Files.{plain_file}
use Rattle.mm_with_lemmas.specs.Mirror.Editing.{AreReplaceable}
use Rattle.mm_with_lemmas.proofs.replaced.are_met.Given as goal

abbrev pub invariant-loop-statement : goal.invariant-loop-statement
invariant-loop-statement l = record {
  seen : List PlainStatement;
  whole : l.fn.statements.statements ≡ seen ++ l.statements.statements;
  within : l.met ≤ length l.proofs;
  each : AreReplaceable (map plain_file l.files) seen l.number (take l.met l.proofs);
}

abbrev pub decreases-loop-statement : goal.decreases-loop-statement
decreases-loop-statement l = length l.statements.statements
