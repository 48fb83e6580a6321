-- The users, or the refusal.
use Rattle.std.proofs.Common.{refl}
use Rattle.mm_check.proofs.users.told_users.Goals as goal

pub returns-in-Some : goal.returns-in-Some
returns-in-Some g c = rw c.in-Some.is (refl, refl)
