-- By all that both say.
use Rattle.std.proofs.lemmas.Bool.{eqb-true}
use Rattle.mm_with_lemmas.proofs.KeptRemarks.{alike, same_marks}
use Rattle.mm_with_lemmas.proofs.remarked.are_alike.Goals as goal

pub returns : goal.returns
returns c = λ t.
    alike c.args.own.now c.args.other.now (same_marks _ _ c.if-own-other.false)
    (same_marks _ _ c.if-own-other-2.false) (eqb-true _ _ t)
