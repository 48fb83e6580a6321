-- The reply is the list of a database that is accepted.
use Rattle.mm_check.proofs.whole.lemmas_reply.Goals as goal

pub returns : goal.returns
returns g c = c.checked_reply.ensures
