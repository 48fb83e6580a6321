-- By its mark, and whether it is a theorem in both.
use Rattle.std.proofs.Common.{ℕ, refl, sym, subst, ◌∙◌}
use Rattle.std.proofs.lemmas.Bool.{false≢true}
use Rattle.mm_alike.specs.Mirror.Databases.{IsTheorem}
use Rattle.mm_diff.proofs.OneAssertions.{one_labelled, one_turned}
use Rattle.mm_diff.proofs.StayingTheorems.{one_twin}
use Rattle.mm_diff.proofs.depends.is_unsettled.Goals as goal

pub is_theorem-requires-in-Some : goal.is_theorem-requires-in-Some
is_theorem-requires-in-Some c =
    let new = c.args.new.now.statements in
    let old = c.args.old.now.statements in
    one_labelled old new c.in-Some.former.0 c.args.id.0
    (one_turned new old c.args.id.0 c.in-Some.former.0
    ((c.requires.twins c.args.id.0 c.in-Some.former.0).0 c.in-Some.ensures.some))

pub returns-then-is_marked : goal.returns-then-is_marked
returns-then-is_marked c = (
  (λ t. absurd (false≢true t)),
  (λ (unmarked, theorem, former, twin, other). absurd (unmarked (sym c.is_marked.ensures ∙ c.if-is_marked.true))),
)

pub returns-then-not-is_theorem : goal.returns-then-not-is_theorem
returns-then-not-is_theorem c = (
  (λ t. absurd (false≢true t)),
  (λ (unmarked, theorem, former, twin, other).
      absurd (false≢true (sym c.if-not-is_theorem.true ∙ c.is_theorem.ensures.1 theorem))),
)

pub returns-in-Some : goal.returns-in-Some
returns-in-Some c = (
  (λ t. (
    (λ marked. absurd (false≢true (sym c.if-is_marked.false ∙ c.is_marked.ensures ∙ marked))),
    c.is_theorem.ensures.0 c.if-not-is_theorem.false,
    c.in-Some.former.0,
    c.in-Some.ensures.some,
    c.is_theorem-in-Some.ensures.0 t,
  )),
  (λ (unmarked, theorem, former, twin, other). c.is_theorem-in-Some.ensures.1
      (subst (λ (k : ℕ). IsTheorem c.args.old.now.statements k)
      (one_twin c.args.twins.now c.args.id.0 former c.in-Some.former.0 twin
      c.in-Some.ensures.some) other)),
)

pub returns-in-None : goal.returns-in-None
returns-in-None c = (
  (λ t. absurd (false≢true t)),
  (λ (unmarked, theorem, former, twin, other). absurd (c.in-None.ensures.none refl former twin)),
)
