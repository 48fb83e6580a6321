-- The number in the table is among them, or none is.
use Rattle.std.proofs.Common.{map}
use Rattle.std.proofs.lemmas.Bool.{false≢true}
use Rattle.mm_base.proofs.Lists.{contains_from_at}
use Rattle.mm_frame.specs.declared.number.LabelId.{LabelId}
use Rattle.mm_with_lemmas.proofs.founded.is_former_among.Goals as goal

pub returns-in-Some-index_of : goal.returns-in-Some-index_of
returns-in-Some-index_of c = λ t. (
  c.in-Some.former,
  c.in-Some.ensures,
  contains_from_at (map (λ (l : LabelId). l.0) c.args.others.now) c.in-Some.former.0
      (_, c.in-Some-index_of.ensures.found),
)

pub returns-in-None-index_of : goal.returns-in-None-index_of
returns-in-None-index_of c = λ t. absurd (false≢true t)

pub returns-in-None : goal.returns-in-None
returns-in-None c = λ t. absurd (false≢true t)
