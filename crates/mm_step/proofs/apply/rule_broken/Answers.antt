use Rattle.std.proofs.Common.{◌≡◌, length, drop, arith}
use Rattle.std.proofs.lemmas.List.{length-drop}
use Rattle.mm_frame.specs.Pieces.{variables_of}
use Rattle.mm_step.specs.Mirror.CodeVerify.{pairs_in, all_names_at}
use Rattle.mm_step.proofs.ByNumbers.NumberedSymbols.{as_many, typed_variables, replaces_by}
use Rattle.mm_step.proofs.ProofSteps.Replacements.{replaced_by}
use Rattle.mm_step.proofs.ByNumbers.StepByAssertion.{stops_P10, stops_P11, stops_P12, drop_below}
use Rattle.mm_step.proofs.apply.rule_broken.Goals as goal

pub are_equal-requires-clause-below : goal.are_equal-requires-clause-below
are_equal-requires-clause-below g c =
    drop_below c.args.book.now.statements _ c.args.base _ c.requires.symbols

pub returns-then-not-are_equal-clause-judged : goal.returns-then-not-are_equal-clause-judged
returns-then-not-are_equal-clause-judged g c limit id at hs called mandatory codes =
    let st = c.args.book.now.statements in
    let xs = c.args.signature.now.hypotheses.now in
    let stack = g.S.Store.stack c.args.store.now in
    let typed = typed_variables st xs hs c.requires.typed called.known in
    let paired : length (drop c.args.base stack) ≡ length hs =
    omega (arith, length-drop c.args.base stack, c.requires.entries, as_many st xs hs called.known) in
    let r = replaces_by c.one_number.ensures st (variables_of xs) hs (drop c.args.base stack) typed in
    stops_P10 limit st c.args.own.now.index id at _ hs stack c.args.base c.requires.sound.0 called paired codes
    (c.if-not-are_equal.ensures.equal (replaced_by hs (all_names_at st (drop c.args.base stack))) r
    hs called.known)

pub returns-then-are_disjoint_pairs-clause-judged : goal.returns-then-are_disjoint_pairs-clause-judged
returns-then-are_disjoint_pairs-clause-judged g c limit id at hs called mandatory codes = record {
  codes = codes;
  equal = λ σ replaces. c.if-not-are_equal.ensures.equal σ replaces hs called.known;
  apart = rw c.if-not-are_equal.ensures.stack at c.if-are_disjoint_pairs.ensures;
}

pub returns-then-has_shared_pair-clause-judged : goal.returns-then-has_shared_pair-clause-judged
returns-then-has_shared_pair-clause-judged g c limit id at hs called mandatory codes =
    let st = c.args.book.now.statements in
    let xs = c.args.signature.now.hypotheses.now in
    let stack = g.S.Store.stack c.args.store.now in
    let typed = typed_variables st xs hs c.requires.typed called.known in
    let paired : length (drop c.args.base stack) ≡ length hs =
    omega (arith, length-drop c.args.base stack, c.requires.entries, as_many st xs hs called.known) in
    let r = replaces_by c.one_number.ensures st (variables_of xs) hs (drop c.args.base stack) typed in
    stops_P11 limit c.one_number.ensures st c.args.own.now.index id at _ hs stack c.args.base (variables_of xs) (pairs_in c.args.signature.now.pairs.now) c.requires.sound.0 called paired typed mandatory
    codes
    (c.if-not-are_equal.ensures.equal (replaced_by hs (all_names_at st (drop c.args.base stack))) r
    hs called.known)
    (rw c.if-not-are_equal.ensures.stack at c.if-has_shared_pair.ensures)

pub returns-clause-judged : goal.returns-clause-judged
returns-clause-judged g c limit id at hs called mandatory codes =
    let st = c.args.book.now.statements in
    let xs = c.args.signature.now.hypotheses.now in
    let stack = g.S.Store.stack c.args.store.now in
    let typed = typed_variables st xs hs c.requires.typed called.known in
    let paired : length (drop c.args.base stack) ≡ length hs =
    omega (arith, length-drop c.args.base stack, c.requires.entries, as_many st xs hs called.known) in
    let r = replaces_by c.one_number.ensures st (variables_of xs) hs (drop c.args.base stack) typed in
    stops_P12 limit c.one_number.ensures st c.args.own.now.index id at _ hs stack c.args.base (variables_of xs) (pairs_in c.args.signature.now.pairs.now) c.requires.sound.0 called paired typed mandatory
    codes
    (c.if-not-are_equal.ensures.equal (replaced_by hs (all_names_at st (drop c.args.base stack))) r
    hs called.known)
    (rw c.if-not-are_equal.ensures.stack at c.if-has_shared_pair.ensures)
    (rw c.if-not-are_equal.ensures.stack at c.if-are_disjoint_pairs.ensures)
