use Rattle.std.proofs.lemmas.Result.{IfOk-weaker}
use Rattle.mm_distinct.proofs.AskedByNumbers.NamedVariables.{shared_named}
use Rattle.mm_distinct.proofs.asked.shared_variables.Goals as goal

pub returns : goal.returns
returns c = record {
  shared = IfOk-weaker c.shared_numbers.result _ _
      (λ shared are index s proof x y at_e at_f declared.
      shared_named c.one_number.ensures c.args.book.now.statements
      index c.frame-own.ensures.sound.0 _ _ _ x y at_e at_f declared are)
      c.shared_numbers.ensures;
}
