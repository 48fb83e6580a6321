-- By whether the assertion itself has the pattern, and whether hypotheses are looked into.
use Rattle.std.proofs.Common.{◌≡◌, ◌∙◌, List, ℕ, refl, sym, true}
use Rattle.std.proofs.lemmas.Bool.{false≢true}
use Rattle.std.proofs.lemmas.Result.{IfOk-weaker}
use Rattle.mm_code.specs.Layout.{texts}
use Rattle.mm_find.specs.Found.{HasPattern}
use Rattle.mm_find.specs.Plain.{plain_assertion}
use Rattle.mm_find.specs.Mirror.Types.{type_in}
use Rattle.mm_find.proofs.Queries.{first_met, later_met, none_looked}
use Rattle.mm_find.proofs.query.is_met.Goals as goal

pub returns-then-met : goal.returns-then-met
returns-then-met c = (
  (λ t. first_met (plain_assertion c.args.assertion.now)
      (HasPattern c.args.query.now.matching (type_in c.args.types.now) (texts c.args.pattern.now))
      c.args.query.now.hypotheses
      (let told = rw c.deref.ensures.value at c.in_ok-met.ensures in told.0 c.if-met.true)),
  (λ h. refl),
)

pub returns-then-query : goal.returns-then-query
returns-then-query c =
    let Q : List (List ℕ) → Type 0 =
    HasPattern c.args.query.now.matching (type_in c.args.types.now) (texts c.args.pattern.now) in
    let lacks : ¬ (Q (texts c.args.assertion.now.expression.items)) =
    λ has. (let told = rw c.deref.ensures.value at c.in_ok-met.ensures in false≢true
    (sym c.if-met.false ∙ told.1 has)) in
    IfOk-weaker c.one_has_pattern.result _ _
    (λ one told. later_met (plain_assertion c.args.assertion.now) Q
    c.args.query.now.hypotheses (one ≡ true) c.if-query.true lacks
    (rw c.deref-then-query.ensures.value at told))
    c.one_has_pattern.ensures

pub returns : goal.returns
returns c =
    let Q : List (List ℕ) → Type 0 =
    HasPattern c.args.query.now.matching (type_in c.args.types.now) (texts c.args.pattern.now) in
    let lacks : ¬ (Q (texts c.args.assertion.now.expression.items)) =
    λ has. (let told = rw c.deref.ensures.value at c.in_ok-met.ensures in false≢true
    (sym c.if-met.false ∙ told.1 has)) in (
      (λ t. absurd (false≢true t)),
      (λ some. absurd (none_looked (plain_assertion c.args.assertion.now) Q
          c.args.query.now.hypotheses c.if-query.false lacks some)),
    )
