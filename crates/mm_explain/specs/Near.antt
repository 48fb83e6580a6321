-- Labels of the statements of files that are near to another, also where a fault ends the files.
use Rattle.std.specs.Prelude.{◌≡◌, ℕ, List, [], Option}
use Rattle.mm_base.specs.Statement.{PlainStatement}
use Rattle.mm_text.specs.declared.fault.LoadRule.{LoadRule}
use Rattle.mm_text.specs.Files.{BreaksLoad, PlainFile}
use Rattle.mm_text.specs.Reading.{PlainFault, Reads}
use Rattle.mm_rules.specs.Verdict.{CanBeRead, labels_of}
use Rattle.mm_near.specs.Near.{AreNearest}

-- these are the nearest of the labels of the statements that the files hold
abbrev pub AreNearestOf : List PlainFile → (label : List ℕ) → (told : List (List ℕ)) → Type 0
AreNearestOf files label told =
    (statements : List PlainStatement) × (ending : Option PlainFault)
    × Reads files statements ending × AreNearest label [] (labels_of statements) told

-- These are they; and none of files that can't be taken as a whole.
pub record AreNearestIn (files : List PlainFile) (label : List ℕ) (told : List (List ℕ))
    : Type 0 where
  pub whole : CanBeRead files → AreNearestOf files label told
  pub broken : (rule : LoadRule) → BreaksLoad files rule → told ≡ []
