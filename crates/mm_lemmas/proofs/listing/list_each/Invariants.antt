-- The lemmas so far that can be told are listed.
use Rattle.std.proofs.Common.{List}
use Rattle.mm_lemmas.specs.Told.{LemmaLine}
use Rattle.mm_lemmas.specs.Mirror.Listing.{IsListedSoFar}
use Rattle.mm_lemmas.proofs.listing.list_each.Given as goal

abbrev pub invariant-loop-lemma : goal.invariant-loop-lemma
invariant-loop-lemma l =
    (lines : List LemmaLine) × IsListedSoFar l.most l.least l.checked.files lines l.list
