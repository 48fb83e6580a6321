-- What is found is a shorter proof of the theorem that is read again.
use Rattle.mm_base.specs.Statement.{plain_statement}
use Rattle.mm_minimize.proofs.ShorterTheorems.ComparedAgain.{compared_so}
use Rattle.mm_minimize.proofs.proof_pair.shorter_proof.Goals as goal

pub returns-clause-shorter : goal.returns-clause-shorter
returns-clause-shorter g c =
    compared_so c.args.shortening.now.checked.now c.args.id.0 (plain_statement c.args.statement.now)
    c.in_ok-theorem.theorem c.in_ok-found.found
    c.in_ok-theorem.ensures.id c.in_ok-theorem.ensures.told
    c.in_ok-theorem.ensures.theorem.1
    c.in_ok-theorem.ensures.read c.in_ok-found.ensures.compared
