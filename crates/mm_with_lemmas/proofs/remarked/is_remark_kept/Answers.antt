-- By what the old book has under the label.
use Rattle.std.proofs.Common.{refl}
use Rattle.mm_with_lemmas.proofs.remarked.is_remark_kept.Goals as goal

pub returns-in-Some : goal.returns-in-Some
returns-in-Some c = λ t label named told. (
  c.in-Some.former.0,
  c.in-Some.ensures.some label named,
  c.has_alike.ensures t,
)

pub returns-in-None : goal.returns-in-None
returns-in-None c = λ t label named told. absurd (c.in-None.ensures.none refl label named told)
