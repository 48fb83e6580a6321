-- Each name is there.
use Rattle.mm_lemmas.proofs.told.source_of.Goals as goal

pub returns : goal.returns
returns c = λ statements reads. record {
  upper = c.in_ok-upper.ensures statements reads;
  lower = c.in_ok-lower.ensures statements reads;
  known = c.in_ok-known.ensures statements reads;
}
