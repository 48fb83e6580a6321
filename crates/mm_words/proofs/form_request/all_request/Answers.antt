-- The name is the first of the names that is it, or none is.
use Rattle.std.proofs.Common.{None, Some, inr, refl, sym, ◌∙◌}
use Rattle.mm_words.proofs.AskedWords.{number_named}
use Rattle.mm_words.proofs.form_request.all_request.Goals as goal

pub returns-in_default-clause-fault : goal.returns-in_default-clause-fault
returns-in_default-clause-fault c =
    inr (number_named c.args.names.items c.deref.result.now c.args.name.now None
    c.deref.ensures.value (sym c.in_default.is ∙ c.number_of.ensures))

pub returns-clause-request : goal.returns-clause-request
returns-clause-request c = (
  c.in-Some.file,
  refl,
  c.if-whole.false,
  number_named c.args.names.items c.deref.result.now c.args.name.now (Some c.in-Some.file)
      c.deref.ensures.value c.in-Some.ensures,
)
