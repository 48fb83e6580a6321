use Rattle.std.proofs.lemmas.Bool.{MatchBool-at_true, MatchBool-at_false}
use Rattle.std.proofs.Common.{◌≡◌, ℕ, List, length, drop, take, refl, sym, subst, arith}
use Rattle.std.proofs.lemmas.List.{length-drop}
use Rattle.mm_frame.specs.Pieces.{variables_of}
use Rattle.mm_frame.proofs.Frames.VariableIndices.{variables_counted}
use Rattle.mm_step.specs.declared.fault.ProofRule.{ProofRule}
use Rattle.mm_step.specs.declared.fault.ProofRule.TheVariants.{L1}
use Rattle.mm_step.specs.Mirror.CodeRun.{CarriesOn, StopsAt}
use Rattle.mm_step.specs.Mirror.CodeVerify.{AreStackEntries}
use Rattle.mm_step.proofs.ByNumbers.StepByAssertion.{stops_L1, carries, made_entries}
use Rattle.mm_step.proofs.apply.conclude.Goals as goal

pub returns-then-not-branch-clause-fault : goal.returns-then-not-branch-clause-fault
returns-then-not-branch-clause-fault g c rule step is =
    let stack = g.S.Store.stack c.args.store.now in
    let xs = c.args.signature.now.hypotheses.now in
    let vs = variables_of xs in
    let count : length (drop c.args.base stack) ≡ length vs = omega (arith, length-drop c.args.base stack, c.requires.entries, variables_counted xs) in
    let over = (MatchBool-at_false _ _ c.if-not-branch.true c.in_ok-conclude.ensures.said).0 in
    let same : L1 ≡ rule = cc in (
      cc,
      λ st index id at sound ready. subst (λ (r : ProofRule). StopsAt c.args.limit st index id stack r) same
          (stops_L1 c.args.limit c.one_number.ensures st index id at stack c.args.base vs c.args.signature.now.conclusion.now sound.0 ready count over),
    )

pub returns-clause-carried : goal.returns-clause-carried
returns-clause-carried g c st index id at sound ready =
    let stack = g.S.Store.stack c.args.store.now in
    let xs = c.args.signature.now.hypotheses.now in
    let vs = variables_of xs in
    let count : length (drop c.args.base stack) ≡ length vs = omega (arith, length-drop c.args.base stack, c.requires.entries, variables_counted xs) in
    let made = MatchBool-at_true _ _ c.if-not-branch.false c.in_ok-conclude.ensures.said in
    subst (λ (l : List (List ℕ)). CarriesOn c.args.limit st index id stack l) (sym made.1)
    (carries c.args.limit c.one_number.ensures st index id at stack c.args.base vs c.args.signature.now.conclusion.now _ sound.0 ready count refl made.0)

pub returns-clause-entries : goal.returns-clause-entries
returns-clause-entries g c st index id at sound ready entries =
    let stack = g.S.Store.stack c.args.store.now in
    let xs = c.args.signature.now.hypotheses.now in
    let vs = variables_of xs in
    let count : length (drop c.args.base stack) ≡ length vs = omega (arith, length-drop c.args.base stack, c.requires.entries, variables_counted xs) in
    let made = MatchBool-at_true _ _ c.if-not-branch.false c.in_ok-conclude.ensures.said in
    subst (λ (l : List (List ℕ)). AreStackEntries st (take index st) l) (sym made.1)
    (made_entries st index id at stack c.args.base vs c.args.signature.now.conclusion.now _ sound.0 ready count refl entries)
