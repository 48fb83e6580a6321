use Rattle.std.proofs.Common.{ℕ, take, sym, ap, subst, arith, IfOk}
use Rattle.std.proofs.lemmas.List.{length-map}
use Rattle.std.proofs.lemmas.Result.{IfOk-weaker}
use Rattle.mm_step.specs.declared.fault.ProofRule.TheVariants.{L1}
use Rattle.mm_step.specs.Stores.{numbers_in}
use Rattle.mm_step.specs.Mirror.CodeAsked.{number_pairs}
use Rattle.mm_step.specs.Mirror.CodeVerify.{AreStackEntries}
use Rattle.mm_step.specs.Mirror.CodeApply.{IsCallOf, IsEarlierSignature}
use Rattle.mm_distinct.specs.Mirror.CodeLacking.{StepsWith}
use Rattle.mm_step.specs.Mirror.Sites.{ProofSite, IsSite}
use Rattle.mm_step.proofs.ByNumbers.StepByAssertion.{stops_long}
use Rattle.mm_distinct.proofs.LackingPairs.LackingSteps.{stops_with, pushes_with}
use Rattle.mm_distinct.proofs.lacking.step_call.Goals as goal

pub returns-then-expression-site-clause-steps : goal.returns-then-expression-site-clause-steps
returns-then-expression-site-clause-steps g c id of =
    let st = c.args.site.now.statements in
    let limit = ap (λ (v : ProofSite). v.limit) c.site.view_is in
    let long = length-map c.in-Hypothesis.expression.now (λ s. s.0) in
    let sound = (subst IsSite c.site.view_is c.site.invariant.1).sound.0 in
    let u = subst (IsCallOf st c.args.site.now.index id) c.in-Hypothesis.is of in
    stops_with c.args.site.now.limit st _ id (g.S.Store.stack c.args.store.now) _ c.requires.entries
    L1 (λ e. absurd cc)
    (stops_long c.args.site.now.limit st _ id u.0 (g.S.Store.stack c.args.store.now)
    (numbers_in c.in-Hypothesis.expression.now) sound u.1 u.2 u.3
    (omega (arith, c.if-expression-site.true, limit, long)))

pub returns-in_ok-push-in-Hypothesis-clause-steps :
    goal.returns-in_ok-push-in-Hypothesis-clause-steps
returns-in_ok-push-in-Hypothesis-clause-steps g c id of =
    let st = c.args.site.now.statements in
    let u = subst (IsCallOf st c.args.site.now.index id) c.in-Hypothesis.is of in
    let limit = ap (λ (v : ProofSite). v.limit) c.site.view_is in
    let long = length-map c.in-Hypothesis.expression.now (λ s. s.0) in
    rw c.in_ok-push-in-Hypothesis.ensures.pushed
    (pushes_with c.args.site.now.limit st _ id (g.S.Store.stack c.args.store.now) _
    c.requires.entries u.0
    (numbers_in c.in-Hypothesis.expression.now)
    (subst IsSite c.site.view_is c.site.invariant.1).sound.0 u.1 u.2 u.3
    (omega (arith, c.if-expression-site.false, limit, long)))

pub step_assertion-requires-clause-signature : goal.step_assertion-requires-clause-signature
step_assertion-requires-clause-signature g c =
    let id = c.requires.call.0 in
    let of = subst (IsCallOf c.args.site.now.statements c.args.site.now.index id) c.in-Assertion.is
    c.requires.call.1 in (
      id,
      subst (λ (v : ProofSite). IsEarlierSignature v.statements v.index id c.in-Assertion.signature)
          (sym c.site.view_is) of,
    )

pub step_assertion-requires-clause-entries : goal.step_assertion-requires-clause-entries
step_assertion-requires-clause-entries g c =
    subst (λ (v : ProofSite). AreStackEntries v.statements (take v.index v.statements)
    (g.S.Store.stack c.args.store.now)) (sym c.site.view_is) c.requires.entries

pub returns-in-Assertion-clause-steps : goal.returns-in-Assertion-clause-steps
returns-in-Assertion-clause-steps g c =
    let steps = subst (λ (v : ProofSite). IfOk c.step_assertion.result (λ made. (id : ℕ)
    → IsEarlierSignature v.statements v.index id c.in-Assertion.signature
    → StepsWith v.limit v.statements v.index id (number_pairs c.args.lacking.now.items)
    (number_pairs c.step_assertion.new.lacking.items)
    (g.S.Store.stack c.args.store.now) (g.S.Store.stack c.step_assertion.new.store) made))
    c.site.view_is c.step_assertion.ensures.steps in
    IfOk-weaker c.step_assertion.result _ _ (λ made does id of. does id (subst
    (IsCallOf c.args.site.now.statements c.args.site.now.index id) c.in-Assertion.is of)) steps
