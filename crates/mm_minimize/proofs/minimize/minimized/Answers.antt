-- The theorem is read again, and its shortest proof is that of the database.
use Rattle.mm_minimize.proofs.minimize.minimized.Goals as goal

pub minimized-requires-clause-theorem : goal.minimized-requires-clause-theorem
minimized-requires-clause-theorem g c =
    rw c.in_ok-shortening.ensures.database c.in_ok-theorem.ensures.theorem

pub returns-clause-text : goal.returns-clause-text
returns-clause-text g c = λ statements reads.
    (rw c.in_ok-shortening.ensures.database at c.in_ok-found.ensures.text) c.args.label.now statements
    reads (c.in_ok-theorem.ensures.read statements reads).1
