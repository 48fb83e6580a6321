-- The numbers of the statuses.
use Rattle.std.specs.Prelude.{ℕ}
use Rattle.mm_rules.specs.declared.status.Status.{Status}
use Rattle.mm_rules.specs.declared.status.Status.TheVariants.{Done, Refused, Usage, Incomplete}
use Rattle.mm_rules.specs.declared.status.Status.TheVariants.{Stopped}

abbrev pub number_of : Status → ℕ
number_of Done = 0
number_of Refused = 1
number_of Usage = 2
number_of Incomplete = 3
number_of Stopped = 4
