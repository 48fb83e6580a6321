-- The chain is told, or why there is none.
use Rattle.std.proofs.Common.{ℕ, List, map, inl, inr, None, refl, ap, ◌∙◌}
use Rattle.std.proofs.lemmas.Result.{IfOk-weaker}
use Rattle.mm_frame.specs.declared.number.LabelId.{LabelId}
use Rattle.mm_verdict.specs.Reply.{lines_of}
use Rattle.mm_rules.specs.Answer.{labels_at}
use Rattle.mm_check.proofs.chain.chain_answer.Goals as goal

pub returns-in_ok-text-in-Ok : goal.returns-in_ok-text-in-Ok
returns-in_ok-text-in-Ok c = λ statements reads.
    let chain : List ℕ = map (λ (id : LabelId). id.0) c.in-Ok.numbers.items in
    inr (
      chain,
      c.in-Ok.ensures.chain statements reads,
      c.in_ok-text-in-Ok.ensures
          ∙ ap (λ (ids : List LabelId). lines_of (labels_at c.args.checked.now.labels
          (map (λ (id : LabelId). id.0) ids))) c.deref.ensures.value
          ∙ ap (λ (ls : List (List ℕ)). lines_of (labels_at ls chain))
          (c.requires statements None reads),
      refl,
    )

pub returns-in-Err : goal.returns-in-Err
returns-in-Err c =
    IfOk-weaker c.chain_fault_reply.result _ _
    (λ reply h statements reads. inl (c.in-Err.fault, c.in-Err.ensures.fault statements reads, h))
    c.chain_fault_reply.ensures
