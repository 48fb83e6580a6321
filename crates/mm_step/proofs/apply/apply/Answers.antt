use Rattle.std.proofs.Common.{◌≡◌, ℕ, ◌-◌, ◌<◌, length, drop, arith, subst}
use Rattle.std.proofs.lemmas.List.{length-drop}
use Rattle.std.proofs.lemmas.Result.{IfOk-weaker}
use Rattle.mm_frame.specs.Pieces.{variables_of}
use Rattle.mm_frame.proofs.Frames.VariableIndices.{variables_counted}
use Rattle.mm_step.specs.declared.fault.ProofRule.{ProofRule}
use Rattle.mm_step.specs.declared.fault.ProofRule.TheVariants.{P8, P9}
use Rattle.mm_step.specs.Plain.{label_ids}
use Rattle.mm_step.specs.Mirror.CodeRun.{StopsAt}
use Rattle.mm_step.specs.Mirror.CodeApply.{IsReady, IsEarlierSignature}
use Rattle.mm_step.proofs.ByNumbers.NumberedSymbols.{as_many, its_within}
use Rattle.mm_step.proofs.ByNumbers.StepByAssertion.{stops_P8, stops_P9, called_of, ready_of}
use Rattle.mm_step.proofs.ByNumbers.StepByAssertion.{drop_below}
use Rattle.mm_step.proofs.apply.apply.Given as given
use Rattle.mm_step.proofs.apply.apply.Goals as goal

pub returns-then-count-signature-clause-fault : goal.returns-then-count-signature-clause-fault
returns-then-count-signature-clause-fault g c rule step is =
    let same : P8 ≡ rule = cc in (
      cc,
      λ id of.
          let st = c.args.book.now.statements in
          let xs = c.args.signature.now.hypotheses.now in
          let stack = g.S.Store.stack c.args.store.now in
          let called = called_of st c.args.own.now.index id c.args.signature.now of in
          let short : length stack < length of.hypotheses.hypotheses = omega (arith, c.if-count-signature.true, c.len-count.ensures, as_many st xs of.hypotheses.hypotheses called.known) in
          subst (λ (r : ProofRule). StopsAt c.args.limit st c.args.own.now.index id stack r) same (stops_P8 c.args.limit st c.args.own.now.index id of.at (label_ids xs) of.hypotheses.hypotheses stack called short),
    )

pub returns-in_default-clause-fault : goal.returns-in_default-clause-fault
returns-in_default-clause-fault g c rule step is =
    let same : P9 ≡ rule = cc in (
      cc,
      λ id of.
          let st = c.args.book.now.statements in
          let xs = c.args.signature.now.hypotheses.now in
          let stack = g.S.Store.stack c.args.store.now in
          let base = c.len-count.result - length xs in
          let called = called_of st c.args.own.now.index id c.args.signature.now of in
          let paired : length (drop base stack) ≡ length of.hypotheses.hypotheses =
          omega (arith, length-drop base stack, c.len-count.ensures, c.if-count-signature.false, as_many st xs of.hypotheses.hypotheses called.known) in
          subst (λ (r : ProofRule). StopsAt c.args.limit st c.args.own.now.index id stack r) same
          (stops_P9 c.args.limit st c.args.own.now.index id of.at (label_ids xs) of.hypotheses.hypotheses stack base c.requires.sound.0 called paired (c.in_default.ensures.codes st of.typed (drop_below st _ base stack c.requires.entries) of.hypotheses.hypotheses called.known)),
    )

pub conclude-requires-clause-within : goal.conclude-requires-clause-within
conclude-requires-clause-within g c =
    let of = c.requires.signature.1 in
    let xs = c.args.signature.now.hypotheses.now in
    let stack = g.S.Store.stack c.args.store.now in
    let base = c.len-count.result - length xs in
    let size : length (variables_of xs) ≡ length (drop base stack) = omega (arith, length-drop base stack, c.len-count.ensures, c.if-count-signature.false, variables_counted xs) in
    rw c.rule_broken.ensures.stack (its_within c.args.book.now.statements (variables_of xs) _ of.s
    c.args.signature.now.conclusion.now size of.concluded)

pub returns-in-Some-rule_broken-clause-fault : goal.returns-in-Some-rule_broken-clause-fault
returns-in-Some-rule_broken-clause-fault g c rule step is =
    let same : c.in-Some-rule_broken.rule ≡ rule = cc in (
      cc,
      λ id of.
          let st = c.args.book.now.statements in
          let stack = g.S.Store.stack c.args.store.now in
          let hs = of.hypotheses.hypotheses in
          let called = called_of st c.args.own.now.index id c.args.signature.now of in
          subst (λ (r : ProofRule). StopsAt c.args.limit st c.args.own.now.index id stack r) same
          (c.in-Some-rule_broken.ensures.judged c.args.limit id of.at hs called of.pairs
          (c.in-Some.ensures.codes st of.typed (drop_below st _ _ stack c.requires.entries) hs
          called.known)),
    )

-- only the limit is left to judge
ready : (g : given.Over) (c : goal.After-conclude g) (id : ℕ)
    (of : IsEarlierSignature c.args.book.now.statements c.args.own.now.index id c.args.signature.now)
    → IsReady c.args.book.now.statements c.args.own.now.index id of.at
    (variables_of c.args.signature.now.hypotheses.now)
    (drop (c.len-count.result - length c.args.signature.now.hypotheses.now)
    (g.S.Store.stack c.args.store.now)) c.args.signature.now.conclusion.now
ready g c id of =
    let st = c.args.book.now.statements in
    let called = called_of st c.args.own.now.index id c.args.signature.now of in
    ready_of st c.args.own.now.index id c.args.signature.now _ of
    (c.in-None.ensures.judged c.args.limit id of.at of.hypotheses.hypotheses called of.pairs
    (c.in-Some.ensures.codes st of.typed (drop_below st _ _ _ c.requires.entries)
    of.hypotheses.hypotheses called.known))

pub returns-in-None-clause-carried : goal.returns-in-None-clause-carried
returns-in-None-clause-carried g c = IfOk-weaker c.conclude.result _ _ (λ u carried id of.
    carried c.args.book.now.statements c.args.own.now.index id of.at c.requires.sound
    (ready g c id of)) (rw c.rule_broken.ensures.stack at c.conclude.ensures.carried)

pub returns-in-None-clause-entries : goal.returns-in-None-clause-entries
returns-in-None-clause-entries g c = IfOk-weaker c.conclude.result _ _ (λ u entries.
    let (id, of) = c.requires.signature in
    entries c.args.book.now.statements c.args.own.now.index id of.at c.requires.sound
    (ready g c id of) c.requires.entries)
    (rw c.rule_broken.ensures.stack at c.conclude.ensures.entries)

pub returns-in-None-clause-fault : goal.returns-in-None-clause-fault
returns-in-None-clause-fault g c rule step is =
    let told = (rw c.rule_broken.ensures.stack at c.conclude.ensures.fault) rule step is in (
      told.0,
      λ id of. told.1 c.args.book.now.statements c.args.own.now.index id of.at c.requires.sound
          (ready g c id of),
    )
