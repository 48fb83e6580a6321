-- What is said of its statements is known, and its tables are.
use Rattle.mm_minimize.proofs.shortening.Shortening.new.Goals as goal

pub returns-clause-known : goal.returns-clause-known
returns-clause-known c = record { said = c.in_ok-remarks.ensures; told = c.in_ok-tables.ensures }
