-- The same symbols have the same numbers.
use Rattle.std.proofs.Common.{eq-eqb}
use Rattle.std.proofs.lemmas.Bool.{eqb-true}
use Rattle.mm_axioms.proofs.TypeCodes.{no_code, one_type, type_one}
use Rattle.mm_axioms.proofs.essential.have_one_type.Goals as goal

pub returns-in-Some-type_code : goal.returns-in-Some-type_code
returns-in-Some-type_code c = (
  (λ t. one_type c.args.book.now.statements c.args.one.0 c.args.other.0 c.in-Some.code
      c.in-Some-type_code.same c.requires.one c.requires.other
      (λ s at. c.in-Some.ensures s at) (λ s at. c.in-Some-type_code.ensures s at)
      (eqb-true c.in-Some.code.0 c.in-Some-type_code.same.0 t)),
  λ h. eq-eqb c.in-Some.code.0 c.in-Some-type_code.same.0
      (type_one c.args.book.now.statements c.args.one.0 c.args.other.0 c.in-Some.code
      c.in-Some-type_code.same c.requires.one c.requires.other
      (λ s at. c.in-Some.ensures s at) (λ s at. c.in-Some-type_code.ensures s at) h),
)

pub returns-in-None-type_code : goal.returns-in-None-type_code
returns-in-None-type_code c = (
  (λ t. absurd cc),
  λ h. absurd (no_code c.args.book.now.statements c.args.other.0
      (λ s at. c.in-None-type_code.ensures s at) h.0 h.2),
)

pub returns-in-None : goal.returns-in-None
returns-in-None c = (
  (λ t. absurd cc),
  λ h. absurd (no_code c.args.book.now.statements c.args.one.0
      (λ s at. c.in-None.ensures s at) h.0 h.1),
)
