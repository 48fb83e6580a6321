-- One label more is told, or a move is a step by it.
use Rattle.std.proofs.Common.{◌≡◌, ◌+◌, ℕ, List, take, nat_eq, ap, sym, subst, ◌∙◌}
use Rattle.std.proofs.lemmas.List.{map-append, map_more, take_all}
use Rattle.mm_base.specs.declared.token.Token.{Token}
use Rattle.mm_code.specs.Layout.{texts}
use Rattle.mm_step.specs.Moves.{Move}
use Rattle.mm_step.specs.Plain.{token_texts}
use Rattle.mm_proof.proofs.ProofVerdicts.JudgedMoves.{seen_moves, held_moves}
use Rattle.mm_explain.specs.Unused.{is_named, unused_in}
use Rattle.mm_explain.proofs.UnusedLabels.{told_more, told_same}
use Rattle.mm_explain.proofs.unused.unused_among.Goals as goal
use Rattle.mm_explain.proofs.unused.unused_among.Goals.{then-not-is_named+in_ok-push}
use Rattle.mm_explain.proofs.unused.unused_among.Goals.{else-not-is_named}

pub loop-label-preserved : goal.loop-label-preserved
loop-label-preserved c = λ moves numbered.
    let i = c.loop-label.label-index in
    let front = token_texts (take i c.args.listed.now) in
    let labels = token_texts (take (i + 1) c.args.listed.now) in
    let more = map_more (λ (t : Token). t.text.now) c.args.listed.now i _ c.loop-label-test.true in
    let kept = texts c.loop-label.unused.items in
    let held = held_moves c.args.steps.now.moves c.deref.result.now c.steps.inside.entries.items
    c.deref-2.result.now c.steps.inside.codes.items c.deref.ensures.value c.deref-2.ensures.value
    (seen_moves c.steps.view_is) in
    let is = c.is_named.ensures c.args.steps.now.moves moves
    (λ id. c.in_ok-named.ensures id
    ∙ ap (λ (ms : List (Move ℕ)). is_named nat_eq ms id) (sym held)) numbered in
    elim c.if-not-is_named.branch [
      | then-not-is_named+in_ok-push w ↦
          ap (λ v. texts v.items) w.unused-is ∙ ap texts w.in_ok-push.ensures.items
          ∙ map-append (λ t. t.now) c.loop-label.unused.items _
          ∙ told_more moves front labels kept _ c.is_named.result is
          (c.loop-label.invariant moves numbered) more w.if-not-is_named.true
      | else-not-is_named w ↦
          ap (λ v. texts v.items) w.unused-is
          ∙ told_same moves front labels kept _ c.is_named.result is
          (c.loop-label.invariant moves numbered) more w.if-not-is_named.false
    ]

pub returns : goal.returns
returns c = λ moves numbered.
    subst (λ (listed : List Token). texts c.loop-label.unused.items
    ≡ unused_in moves (token_texts listed))
    (take_all c.loop-label.label-index c.args.listed.now c.loop-label-test.false)
    (c.loop-label.invariant moves numbered)
