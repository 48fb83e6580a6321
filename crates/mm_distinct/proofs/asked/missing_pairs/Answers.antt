use Rattle.std.proofs.Common.{subst}
use Rattle.std.proofs.lemmas.Result.{IfOk-weaker}
use Rattle.mm_step.specs.Stores.{numbers_in}
use Rattle.mm_step.specs.Mirror.CodeAsked.{AreMissingInOrder, number_pairs}
use Rattle.mm_step.proofs.ByNumbers.OneIndex.{one_index}
use Rattle.mm_distinct.proofs.AskedByNumbers.NamedVariables.{missing_named}
use Rattle.mm_distinct.proofs.asked.missing_pairs.Goals as goal

pub returns : goal.returns
returns c = record {
  missing = IfOk-weaker c.missing_numbers.result _ _
      (λ missing are index s proof x y at_e at_f first second.
      let st = c.args.book.now.statements in
      let same = one_index st c.args.id.0
      c.frame-own.result.index index c.frame-own.ensures.index.0 s c.frame-own.ensures.index.1
      proof.numbered in
      missing_named c.one_number.ensures st index c.frame-own.ensures.sound.0 _ _ x y at_e at_f
      first second missing.items
      (subst (λ at. AreMissingInOrder st at (numbers_in c.args.e.now) (numbers_in c.args.f.now)
      (number_pairs missing.items)) same are))
      c.missing_numbers.ensures;
}
