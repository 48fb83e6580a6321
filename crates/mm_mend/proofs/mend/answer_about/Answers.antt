-- Its proof is incomplete, or it is judged.
use Rattle.std.proofs.Common.{◌≡◌, ◌∙◌, true, false, ℕ, List, inl, inr, subst, sym}
use Rattle.std.proofs.lemmas.Result.{IfOk-weaker}
use Rattle.mm_proof.specs.Tokens.{is_incomplete}
use Rattle.mm_mend.proofs.MendedTheorems.{own_texts}
use Rattle.mm_mend.proofs.mend.answer_about.Goals as goal

pub judged_reply-requires-clause-complete : goal.judged_reply-requires-clause-complete
judged_reply-requires-clause-complete c =
    subst (λ (ts : List (List ℕ)). is_incomplete ts ≡ false)
    (own_texts c.args.reached.now c.deref.result.now c.deref.ensures.value)
    (sym c.is_incomplete.ensures ∙ c.if-is_incomplete.false)

pub returns-then-is_incomplete : goal.returns-then-is_incomplete
returns-then-is_incomplete c = λ r.
    inl (
      subst (λ (ts : List (List ℕ)). is_incomplete ts ≡ true)
          (own_texts c.args.reached.now c.deref.result.now c.deref.ensures.value)
          (sym c.is_incomplete.ensures ∙ c.if-is_incomplete.true),
      c.in_ok-ask_reply.ensures,
      c.new.ensures.items,
    )

pub returns : goal.returns
returns c =
    let complete = subst (λ (ts : List (List ℕ)). is_incomplete ts ≡ false)
    (own_texts c.args.reached.now c.deref.result.now c.deref.ensures.value)
    (sym c.is_incomplete.ensures ∙ c.if-is_incomplete.false) in
    IfOk-weaker c.judged_reply.result _ _
    (λ mended told r. inr (complete, told c.args.label.now r)) c.judged_reply.ensures
