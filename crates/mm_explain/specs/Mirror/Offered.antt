-- What the nearest labels are after those of statements were offered. This file mirrors the code, and
-- is cited by private contracts alone.
use Rattle.std.specs.Prelude.{◌≡◌, List, []}
use Rattle.mm_base.specs.Statement.{PlainStatement}
use Rattle.mm_code.specs.Layout.{texts}
use Rattle.mm_rules.specs.Verdict.{labels_of}
use Rattle.mm_near.specs.Near.{AreNearestBelow}
use Rattle.mm_near.specs.declared.nearest.Nearest.{Nearest}

-- the labels of the statements were offered, since the first state
pub record HasOffered (first now : Nearest) (passed : List PlainStatement) : Type 0 where
  pub wanted : now.wanted ≡ first.wanted
  pub listed : now.listed ≡ first.listed
  pub nearest : AreNearestBelow first.wanted.now (texts first.listed.now) [] first.limit
      (texts first.found.items)
      → AreNearestBelow first.wanted.now (texts first.listed.now) (labels_of passed) now.limit
      (texts now.found.items)
