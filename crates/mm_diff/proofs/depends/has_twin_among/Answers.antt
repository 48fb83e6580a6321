-- The number in the table is among them, or none is.
use Rattle.std.proofs.Common.{ℕ, Contains, map, refl, subst}
use Rattle.std.proofs.lemmas.Bool.{false≢true}
use Rattle.mm_base.proofs.Lists.{contains_from_at}
use Rattle.mm_frame.specs.declared.number.LabelId.{LabelId}
use Rattle.mm_diff.proofs.StayingTheorems.{one_twin}
use Rattle.mm_diff.proofs.depends.has_twin_among.Goals as goal

pub returns-in-Some-index_of : goal.returns-in-Some-index_of
returns-in-Some-index_of c = (
  (λ t. (
    c.in-Some.twin.0,
    c.in-Some.ensures.some,
    contains_from_at (map (λ (l : LabelId). l.0) c.args.others.now) c.in-Some.twin.0
        (_, c.in-Some-index_of.ensures.found),
  )),
  (λ h. refl),
)

pub returns-in-None-index_of : goal.returns-in-None-index_of
returns-in-None-index_of c = (
  (λ t. absurd (false≢true t)),
  (λ (n, twin, among). absurd (c.in-None-index_of.ensures.none refl
      (subst (λ (k : ℕ). Contains (map (λ (l : LabelId). l.0) c.args.others.now) k)
      (one_twin c.args.twins.now c.args.id.0 n c.in-Some.twin.0 twin c.in-Some.ensures.some)
      among))),
)

pub returns-in-None : goal.returns-in-None
returns-in-None c = (
  (λ t. absurd (false≢true t)),
  (λ (n, twin, among). absurd (c.in-None.ensures.none refl n twin)),
)
