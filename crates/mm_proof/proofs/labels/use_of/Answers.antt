use Rattle.std.proofs.Common.{arith, inl, inr, sym, ◌∙◌}
use Rattle.std.proofs.lemmas.Bool.{false≢true}
use Rattle.mm_frame.proofs.Rules.ObeyedRules.{some_later}
use Rattle.mm_base.proofs.Lists.{get_take}
use Rattle.mm_proof.proofs.ProofNumbers.NumberedLabels.{numbers_order, not_earlier}
use Rattle.mm_proof.proofs.labels.use_of.Goals as goal

pub returns-in-Assertion : goal.returns-in-Assertion
returns-in-Assertion c =
    let f = c.in-Assertion.ensures.found in
    record { at = f.0; s = f.1; numbered = f.2; named = f.3; before = numbers_order _ _ _ _ _ _ _ f.2 c.requires.own.1 (omega arith); kind = inr f.4 }

pub returns-then-active : goal.returns-then-active
returns-then-active c =
    let f = c.in-Hypothesis.ensures.found in
    let active = (c.active.ensures f.0 f.1 (rw c.requires.book f.2)).0 c.if-active.true in
    record {
      at = f.0;
      s = f.1;
      numbered = f.2;
      named = f.3;
      before = numbers_order _ _ _ _ _ _ _ f.2 c.requires.own.1 (omega arith);
      kind = inl (f.4, rw c.requires.book at active);
    }

pub returns-else-active : goal.returns-else-active
returns-else-active c =
    let f = c.in-Hypothesis.ensures.found in
    let less = numbers_order _ _ _ _ _ _ _ f.2 c.requires.own.1 (omega arith) in
    record {
      at = f.0;
      s = f.1;
      there = get_take c.args.book.now.statements c.args.own.now.index f.0 less ∙ f.2.there;
      named = f.3;
      kind = f.4;
      idle = λ active.
          let own = c.active.ensures f.0 f.1 (rw c.requires.book f.2) in
          false≢true (sym c.if-active.false ∙ own.1 (rw c.requires.book active));
    }

pub returns-in_default : goal.returns-in_default
returns-in_default c =
    let f = c.in-Assertion.ensures.found in
    not_earlier _ _ f.0 f.1 _ _ _ _ c.in-Assertion.ensures.sound.0 f.2 f.3 c.requires.own.1 (omega arith)

pub returns-in_default-2 : goal.returns-in_default-2
returns-in_default-2 c =
    let f = c.in-Hypothesis.ensures.found in
    not_earlier _ _ f.0 f.1 _ _ _ _ c.in-Hypothesis.ensures.sound.0 f.2 f.3 c.requires.own.1 (omega arith)

pub returns-in_default-3 : goal.returns-in_default-3
returns-in_default-3 c h = c.in_default.ensures.found (some_later _ _ _ h)
