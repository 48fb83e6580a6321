-- An option that isn't there is none.
use Rattle.std.proofs.Common.{◌≡◌}
use Rattle.std.proofs.Common.{false, Some, None, refl}
use Rattle.std.proofs.Common.{Option}
use Rattle.std.proofs.Common.{is_some}

pub none_there : {X : Type 0} (o : Option X) → is_some o ≡ false → o ≡ None
none_there None e = refl
none_there (Some x) e = absurd cc
