use Rattle.std.proofs.Common.{◌≡◌, ℕ, take, sym, ap, subst, arith, OnOk}
use Rattle.std.proofs.lemmas.List.{length-map}
use Rattle.std.proofs.lemmas.Result.{on_ok_weaker}
use Rattle.mm_step.specs.declared.fault.ProofRule.TheVariants.{L1}
use Rattle.mm_step.specs.Stores.{numbers_in}
use Rattle.mm_step.specs.Mirror.CodeRun.{CarriesOn, StopsAt}
use Rattle.mm_step.specs.Mirror.CodeVerify.{AreStackEntries}
use Rattle.mm_step.specs.Mirror.CodeApply.{IsCallOf, IsEarlierSignature}
use Rattle.mm_step.specs.Mirror.Sites.{ProofSite, IsSite}
use Rattle.mm_step.proofs.ByNumbers.StepByAssertion.{stops_long, pushes, pushed_entries}
use Rattle.mm_step.proofs.call.step_by.Goals as goal

pub returns-then-expression-site-clause-fault : goal.returns-then-expression-site-clause-fault
returns-then-expression-site-clause-fault g c rule at is =
    let same : L1 ≡ rule = cc in
    let limit = ap (λ (v : ProofSite). v.limit) c.site.view_is in
    let long = length-map c.in-Hypothesis.expression.now (λ s. s.0) in
    let sound = (subst IsSite c.site.view_is c.site.invariant.1).sound.0 in (
      cc,
      λ id of.
          let st = c.args.site.now.statements in
          let u = subst (IsCallOf st c.args.site.now.index id) c.in-Hypothesis.is of in
          rw (← same)
          (stops_long c.args.site.now.limit st _ id u.0 (g.S.Store.stack c.args.store.now)
          (numbers_in c.in-Hypothesis.expression.now) sound u.1 u.2 u.3
          (omega (arith, c.if-expression-site.true, limit, long))),
    )

pub returns-in_ok-push-in-Hypothesis-clause-carried :
    goal.returns-in_ok-push-in-Hypothesis-clause-carried
returns-in_ok-push-in-Hypothesis-clause-carried g c id of =
    let st = c.args.site.now.statements in
    let u = subst (IsCallOf st c.args.site.now.index id) c.in-Hypothesis.is of in
    let limit = ap (λ (v : ProofSite). v.limit) c.site.view_is in
    let long = length-map c.in-Hypothesis.expression.now (λ s. s.0) in
    rw c.in_ok-push-in-Hypothesis.ensures.pushed
    (pushes c.args.site.now.limit st _ id u.0 (g.S.Store.stack c.args.store.now)
    (numbers_in c.in-Hypothesis.expression.now)
    (subst IsSite c.site.view_is c.site.invariant.1).sound.0 u.1 u.2 u.3
    (omega (arith, c.if-expression-site.false, limit, long)))

pub returns-in_ok-push-in-Hypothesis-clause-entries :
    goal.returns-in_ok-push-in-Hypothesis-clause-entries
returns-in_ok-push-in-Hypothesis-clause-entries g c =
    let st = c.args.site.now.statements in
    let of = c.requires.call.1 in
    let u = subst (IsCallOf st c.args.site.now.index c.requires.call.0) c.in-Hypothesis.is of in
    rw c.in_ok-push-in-Hypothesis.ensures.pushed
    (pushed_entries st _ _ u.0 (g.S.Store.stack c.args.store.now)
    (numbers_in c.in-Hypothesis.expression.now)
    (subst IsSite c.site.view_is c.site.invariant.1).sound.0 u.1 u.2 u.3 c.requires.entries)

pub apply-requires-clause-signature : goal.apply-requires-clause-signature
apply-requires-clause-signature g c =
    let id = c.requires.call.0 in
    let of = subst (IsCallOf c.args.site.now.statements c.args.site.now.index id) c.in-Assertion.is
    c.requires.call.1 in (
      id,
      subst (λ (v : ProofSite). IsEarlierSignature v.statements v.index id c.in-Assertion.signature)
          (sym c.site.view_is) of,
    )

pub apply-requires-clause-entries : goal.apply-requires-clause-entries
apply-requires-clause-entries g c =
    subst (λ (v : ProofSite). AreStackEntries v.statements (take v.index v.statements)
    (g.S.Store.stack c.args.store.now)) (sym c.site.view_is) c.requires.entries

pub returns-in-Assertion-clause-carried : goal.returns-in-Assertion-clause-carried
returns-in-Assertion-clause-carried g c =
    let carried = subst (λ (v : ProofSite). OnOk c.apply.result ((id : ℕ)
    → IsEarlierSignature v.statements v.index id c.in-Assertion.signature
    → CarriesOn v.limit v.statements v.index id (g.S.Store.stack c.args.store.now)
    (g.S.Store.stack c.apply.new.store))) c.site.view_is c.apply.ensures.carried in
    on_ok_weaker c.apply.result (λ does. λ id of. does id (subst
    (IsCallOf c.args.site.now.statements c.args.site.now.index id) c.in-Assertion.is of))
    carried

pub returns-in-Assertion-clause-entries : goal.returns-in-Assertion-clause-entries
returns-in-Assertion-clause-entries g c =
    subst (λ (v : ProofSite). OnOk c.apply.result (AreStackEntries v.statements
    (take v.index v.statements) (g.S.Store.stack c.apply.new.store))) c.site.view_is
    c.apply.ensures.entries

pub returns-in-Assertion-clause-fault : goal.returns-in-Assertion-clause-fault
returns-in-Assertion-clause-fault g c rule at is =
    let told = c.apply.ensures.fault rule at is in
    let stops = subst (λ (v : ProofSite). (id : ℕ) → IsEarlierSignature v.statements v.index id
    c.in-Assertion.signature
    → StopsAt v.limit v.statements v.index id (g.S.Store.stack c.args.store.now) rule)
    c.site.view_is told.1 in (
      told.0,
      λ id of. stops id (subst (IsCallOf c.args.site.now.statements c.args.site.now.index
          id) c.in-Assertion.is of),
    )
