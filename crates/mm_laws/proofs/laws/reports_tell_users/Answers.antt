-- By the law of users.
use Rattle.mm_axioms.proofs.Resting.UsersOf as users
use Rattle.mm_laws.proofs.laws.reports_tell_users.Goals as goal

pub returns : goal.returns
returns c = users.reports_tell_users
