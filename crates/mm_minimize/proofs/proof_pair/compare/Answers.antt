-- What is found is a shorter proof of the theorem.
use Rattle.mm_minimize.proofs.proof_pair.compare.Goals as goal

pub returns-in-Some-clause-compared : goal.returns-in-Some-clause-compared
returns-in-Some-clause-compared g c = record {
  own = c.in_ok-own.ensures;
  anew = rw c.in-Some.is at c.in_ok-found.ensures.anew;
  found = rw c.in-Some.is at c.in_ok-found.ensures.found;
}
