-- What is left of labels after statements were passed. This file mirrors the code, and is cited by
-- private contracts alone.
use Rattle.std.specs.Prelude.{◌≡◌, ℕ, List}
use Rattle.indexmap.specs.IndexMap.{get}
use denote.Ref.{Bor}
use Rattle.mm_base.specs.Statement.{PlainStatement}
use Rattle.mm_groups.specs.Shared.{times}
use Rattle.mm_groups.specs.Mirror.Sets.{same_bytes, left_after}
use Rattle.mm_groups.specs.declared.countdown.Countdown.{Countdown}

-- as often as these name a label, so much less is left for it
abbrev pub HasCounted : (first now : Countdown) → (passed : List PlainStatement) → Type 0
HasCounted first now passed =
    (label : Bor (List ℕ))
    → get same_bytes now.left label
    ≡ left_after (times passed label.now) (get same_bytes first.left label)
