-- One more number, which is taken or passed over.
use Rattle.std.proofs.Common.{ℕ, refl, sym, ◌∙◌, arith}
use Rattle.std.proofs.lemmas.Bool.{false≢true}
use Rattle.mm_rules.proofs.OrderedNumbers.{up_to_taken, up_to_passed, up_to_ended}
use Rattle.mm_diff.specs.Mirror.Depends.{IsUnsettled}
use Rattle.mm_diff.proofs.FurtherAxioms.{unsettled_within}
use Rattle.mm_diff.proofs.OneAssertions.{within_end}
use Rattle.mm_diff.proofs.depends.those_unsettled.Goals as goal
use Rattle.mm_diff.proofs.depends.those_unsettled.Goals.{then-is_unsettled+in_ok-push}
use Rattle.mm_diff.proofs.depends.those_unsettled.Goals.{else-is_unsettled}
use Rattle.mm_diff.proofs.depends.those_unsettled.Goals.{else-loop-number-test}
use Rattle.mm_diff.proofs.depends.those_unsettled.Goals.{then-loop-number-test+then-not-is_label}

pub loop-number-preserved : goal.loop-number-preserved
loop-number-preserved c =
    let P : ℕ → Type 0 =
    IsUnsettled c.args.new.now.statements c.args.old.now.statements c.args.twins.now
    c.args.marks.now in
    elim c.if-is_unsettled.branch [
      | then-is_unsettled+in_ok-push w ↦
          up_to_taken P c.loop-number.those.items c.if-is_unsettled.those.items
          (record { 0 = c.loop-number.number }) c.loop-number.number c.loop-number.invariant refl
          (c.is_unsettled.ensures.0 w.if-is_unsettled.true)
          (rw w.those-is w.in_ok-push.ensures.items)
      | else-is_unsettled w ↦
          rw w.those-is (up_to_passed P c.loop-number.those.items c.loop-number.number
          c.loop-number.invariant
          (λ h. false≢true (sym w.if-is_unsettled.false ∙ c.is_unsettled.ensures.1 h)))
    ]

pub returns : goal.returns
returns c =
    let new = c.args.new.now.statements in
    let old = c.args.old.now.statements in
    let P : ℕ → Type 0 = IsUnsettled new old c.args.twins.now c.args.marks.now in
    up_to_ended P c.loop-number.those.items c.loop-number.number c.loop-number.invariant
    (elim c.loop-number-test.branch [
      | else-loop-number-test w ↦
          λ n p.
          let within = unsettled_within new old c.args.twins.now c.args.marks.now n p in
          omega arith
      | then-loop-number-test+then-not-is_label w ↦
          λ n p. within_end new c.loop-number.number n
          (λ h. false≢true (sym w.if-not-is_label.true ∙ w.is_label.ensures.1 h))
          (unsettled_within new old c.args.twins.now c.args.marks.now n p)
    ])
