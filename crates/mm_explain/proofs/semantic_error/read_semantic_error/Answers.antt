-- What was found at the site is the error.
use Rattle.mm_explain.proofs.semantic_error.read_semantic_error.Goals as goal

pub returns-clause-error : goal.returns-clause-error
returns-clause-error c = record {
  readable = c.requires.readable;
  known = c.requires.broken;
  statement = λ site. (c.in_ok-index.ensures site).0;
  breaks = λ site. (c.in_ok-index.ensures site).1;
}
