use Rattle.std.proofs.Common.{◌≡◌, ◌+◌, ◌-◌, ◌<◌, length, drop, arith}
use Rattle.std.proofs.lemmas.List.{length-drop}
use Rattle.std.proofs.lemmas.Result.{IfOk-weaker}
use Rattle.mm_frame.specs.Pieces.{variables_of}
use Rattle.mm_frame.proofs.Frames.VariableIndices.{variables_counted}
use Rattle.mm_step.specs.declared.fault.ProofRule.TheVariants.{P8, P9, P10, P11}
use Rattle.mm_step.specs.Plain.{label_ids}
use Rattle.mm_step.specs.Mirror.CodeVerify.{pairs_in, all_names_at}
use Rattle.mm_step.proofs.ProofSteps.Replacements.{replaced_by}
use Rattle.mm_step.proofs.ByNumbers.NumberedSymbols.{as_many, its_within, typed_variables}
use Rattle.mm_step.proofs.ByNumbers.NumberedSymbols.{replaces_by}
use Rattle.mm_step.proofs.ByNumbers.StepByAssertion.{stops_P8, stops_P9, stops_P10, stops_P11}
use Rattle.mm_step.proofs.ByNumbers.StepByAssertion.{called_of, drop_below}
use Rattle.mm_distinct.proofs.LackingPairs.LackingSteps.{stops_with, concludes_with}
use Rattle.mm_distinct.proofs.lacking.step_assertion.Goals as goal

pub returns-then-count-signature-clause-steps : goal.returns-then-count-signature-clause-steps
returns-then-count-signature-clause-steps g c id of =
    let st = c.args.book.now.statements in
    let xs = c.args.signature.now.hypotheses.now in
    let stack = g.S.Store.stack c.args.store.now in
    let called = called_of st c.args.own.now.index id c.args.signature.now of in
    let short : length stack < length of.hypotheses.hypotheses =
    omega (
      arith,
      c.if-count-signature.true,
      c.len-count.ensures,
      as_many st xs
          of.hypotheses.hypotheses called.known,
    ) in
    stops_with c.args.limit st c.args.own.now.index id stack _ c.requires.entries P8
    (λ e. absurd cc)
    (stops_P8 c.args.limit st c.args.own.now.index id of.at (label_ids xs) of.hypotheses.hypotheses
    stack called short)

pub returns-in_default-clause-steps : goal.returns-in_default-clause-steps
returns-in_default-clause-steps g c id of =
    let st = c.args.book.now.statements in
    let xs = c.args.signature.now.hypotheses.now in
    let stack = g.S.Store.stack c.args.store.now in
    let base = c.len-count.result - length xs in
    let called = called_of st c.args.own.now.index id c.args.signature.now of in
    let paired : length (drop base stack) ≡ length of.hypotheses.hypotheses =
    omega (
      arith,
      length-drop base stack,
      c.len-count.ensures,
      c.if-count-signature.false,
      as_many st
          xs of.hypotheses.hypotheses called.known,
    ) in
    stops_with c.args.limit st c.args.own.now.index id stack _ c.requires.entries P9
    (λ e. absurd cc)
    (stops_P9 c.args.limit st c.args.own.now.index id of.at (label_ids xs) of.hypotheses.hypotheses
    stack base c.requires.sound.0 called paired
    (c.in_default.ensures.codes st of.typed (drop_below st _ base stack c.requires.entries)
    of.hypotheses.hypotheses called.known))

pub are_equal-requires-clause-below : goal.are_equal-requires-clause-below
are_equal-requires-clause-below g c =
    drop_below c.args.book.now.statements _ _ _ c.requires.entries

pub returns-then-not-are_equal-clause-steps : goal.returns-then-not-are_equal-clause-steps
returns-then-not-are_equal-clause-steps g c id of =
    let st = c.args.book.now.statements in
    let xs = c.args.signature.now.hypotheses.now in
    let hs = of.hypotheses.hypotheses in
    let stack = g.S.Store.stack c.args.store.now in
    let base = c.len-count.result - length xs in
    let called = called_of st c.args.own.now.index id c.args.signature.now of in
    let typed = typed_variables st xs hs of.typed called.known in
    let paired : length (drop base stack) ≡ length hs =
    omega (
      arith,
      length-drop base stack,
      c.len-count.ensures,
      c.if-count-signature.false,
      as_many st
          xs hs called.known,
    ) in
    let codes = c.in-Some.ensures.codes st of.typed (drop_below st _ base stack c.requires.entries)
    hs called.known in
    let r = replaces_by c.one_number.ensures st (variables_of xs) hs (drop base stack) typed in
    rw c.if-not-are_equal.ensures.stack (stops_with c.args.limit st c.args.own.now.index id stack _
    c.requires.entries P10 (λ e. absurd cc)
    (stops_P10 c.args.limit st c.args.own.now.index id of.at (label_ids xs) hs stack base
    c.requires.sound.0 called paired codes
    (c.if-not-are_equal.ensures.equal (replaced_by hs (all_names_at st (drop base stack))) r hs
    called.known)))

pub returns-then-has_shared_pair-clause-steps : goal.returns-then-has_shared_pair-clause-steps
returns-then-has_shared_pair-clause-steps g c id of =
    let st = c.args.book.now.statements in
    let xs = c.args.signature.now.hypotheses.now in
    let hs = of.hypotheses.hypotheses in
    let stack = g.S.Store.stack c.args.store.now in
    let base = c.len-count.result - length xs in
    let called = called_of st c.args.own.now.index id c.args.signature.now of in
    let typed = typed_variables st xs hs of.typed called.known in
    let paired : length (drop base stack) ≡ length hs =
    omega (
      arith,
      length-drop base stack,
      c.len-count.ensures,
      c.if-count-signature.false,
      as_many st
          xs hs called.known,
    ) in
    let codes = c.in-Some.ensures.codes st of.typed (drop_below st _ base stack c.requires.entries)
    hs called.known in
    let r = replaces_by c.one_number.ensures st (variables_of xs) hs (drop base stack) typed in
    rw c.if-not-are_equal.ensures.stack (stops_with c.args.limit st c.args.own.now.index id stack _
    c.requires.entries P11 (λ e. absurd cc)
    (stops_P11 c.args.limit c.one_number.ensures st c.args.own.now.index id of.at (label_ids xs) hs
    stack base (variables_of xs) (pairs_in c.args.signature.now.pairs.now) c.requires.sound.0 called
    paired typed of.pairs
    codes (c.if-not-are_equal.ensures.equal (replaced_by hs (all_names_at st (drop base stack))) r
    hs called.known)
    (rw c.if-not-are_equal.ensures.stack at c.if-has_shared_pair.ensures)))

pub conclude-requires-clause-within : goal.conclude-requires-clause-within
conclude-requires-clause-within g c =
    let of = c.requires.signature.1 in
    let xs = c.args.signature.now.hypotheses.now in
    let stack = g.S.Store.stack c.args.store.now in
    let base = c.len-count.result - length xs in
    let size : length (variables_of xs) ≡ length (drop base stack) =
    omega (
      arith,
      length-drop base stack,
      c.len-count.ensures,
      c.if-count-signature.false,
      variables_counted xs,
    ) in
    rw c.if-not-are_equal.ensures.stack (its_within c.args.book.now.statements (variables_of xs) _
    of.s c.args.signature.now.conclusion.now size of.concluded)

pub returns-clause-steps : goal.returns-clause-steps
returns-clause-steps g c = IfOk-weaker c.conclude.result _ _ (λ made said id of.
    let st = c.args.book.now.statements in
    let xs = c.args.signature.now.hypotheses.now in
    let hs = of.hypotheses.hypotheses in
    let stack = g.S.Store.stack c.args.store.now in
    let base = c.len-count.result - length xs in
    let called = called_of st c.args.own.now.index id c.args.signature.now of in
    let typed = typed_variables st xs hs of.typed called.known in
    let codes = c.in-Some.ensures.codes st of.typed (drop_below st _ base stack c.requires.entries)
    hs called.known in
    let r = replaces_by c.one_number.ensures st (variables_of xs) hs (drop base stack) typed in
    let count : base + length xs ≡ length stack =
    omega (arith, c.len-count.ensures, c.if-count-signature.false) in
    concludes_with c.args.limit c.one_number.ensures st c.args.own.now.index id c.args.signature.now of
    c.requires.sound.0 stack base count
    c.requires.entries codes
    (c.if-not-are_equal.ensures.equal (replaced_by hs (all_names_at st (drop base stack))) r hs
    called.known)
    (rw c.if-not-are_equal.ensures.stack at c.if-has_shared_pair.ensures) _ _
    (rw c.if-not-are_equal.ensures.stack at c.in_ok-add_of_pairs.ensures) made _ said)
    (rw c.if-not-are_equal.ensures.stack at c.conclude.ensures.said)
