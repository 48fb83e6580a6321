-- The names of the handed files as the code keeps them. This file mirrors the code, and is cited by
-- private contracts alone.
use Rattle.std.specs.Prelude.{◌≡◌, ℕ, List, map, Option, Result, Ok, Err, ⊤, position}
use Rattle.mm_text.specs.declared.fault.LoadRule.TheVariants.{F2}
use Rattle.mm_text.specs.declared.fault.TextFault.{TextFault}
use Rattle.mm_text.specs.declared.fault.TextFault.TheVariants.{Load, Fault, Memory}
use Rattle.mm_text.specs.Files.{PlainFile, HasTwins}
use Rattle.mm_base.specs.Spelling.{spells}

-- the number that a name stands for: its index among the names
abbrev pub number_among : List (List ℕ) → List ℕ → Option ℕ
number_among names name = position (spells name) names

-- The names of the files, each different from the others; or that two are equal, or lack of memory.
abbrev pub AreNames : List PlainFile → Result (List (List ℕ)) TextFault → Type 0
AreNames files (Ok names) = (names ≡ map (λ f. f.name) files) × ¬ (HasTwins files)
AreNames files (Err (Load rule)) = (rule ≡ F2) × HasTwins files
AreNames files (Err Memory) = ⊤
AreNames files (Err (Fault rule file at statement label)) = ⊥
