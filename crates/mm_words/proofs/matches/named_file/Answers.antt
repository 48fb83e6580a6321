-- The file is the first of the names that is its own, or none is.
use Rattle.std.proofs.Common.{None, Some, inr}
use Rattle.mm_words.proofs.AskedWords.{number_named}
use Rattle.mm_words.proofs.matches.named_file.Goals as goal

pub returns-in-Some-clause-named : goal.returns-in-Some-clause-named
returns-in-Some-clause-named c = (
  c.in_ok-name.name.now,
  c.in_ok-name.ensures.parts.0,
  number_named c.in_ok-name.names.items c.deref.result.now c.in_ok-name.name.now
      (Some c.in-Some.file) c.deref.ensures.value c.in-Some.ensures,
)

pub returns-clause-fault : goal.returns-clause-fault
returns-clause-fault c = inr (
  c.in_ok-name.name.now,
  _,
  c.in_ok-name.ensures.parts.0,
  number_named c.in_ok-name.names.items c.deref.result.now c.in_ok-name.name.now None
      c.deref.ensures.value c.in-None.ensures,
)
