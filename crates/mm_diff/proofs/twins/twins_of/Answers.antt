-- One more number.
use Rattle.std.proofs.Common.{sym, ◌∙◌, arith}
use Rattle.std.proofs.lemmas.Bool.{false≢true}
use Rattle.mm_diff.proofs.OneAssertions.{one_within, twins_all, twins_more}
use Rattle.mm_diff.proofs.OneAssertions.{twins_none, within_end}
use Rattle.mm_diff.proofs.twins.twins_of.Goals as goal
use Rattle.mm_diff.proofs.twins.twins_of.Goals.{else-loop-number-test}
use Rattle.mm_diff.proofs.twins.twins_of.Goals.{then-loop-number-test+then-not-is_label}

pub loop-number-init : goal.loop-number-init
loop-number-init c =
    twins_none c.args.book.now.statements c.args.other.now.statements _ c.new-twins.ensures.items

pub loop-number-preserved : goal.loop-number-preserved
loop-number-preserved c =
    twins_more c.args.book.now.statements c.args.other.now.statements c.requires.meant
    c.loop-number.number c.loop-number.twins.items _ c.twin_at_label.result
    c.loop-number.invariant c.twin_at_label.ensures.some c.twin_at_label.ensures.none
    c.in_ok-push.ensures.items

pub returns : goal.returns
returns c =
    let st = c.args.book.now.statements in
    let others = c.args.other.now.statements in
    twins_all st others c.requires.meant c.loop-number.number c.loop-number.twins.items
    c.loop-number.invariant
    (elim c.loop-number-test.branch [
      | else-loop-number-test w ↦
          λ id n one. let within = one_within st others id n one in omega arith
      | then-loop-number-test+then-not-is_label w ↦
          λ id n one. within_end st c.loop-number.number id
          (λ h. false≢true (sym w.if-not-is_label.true ∙ w.is_label.ensures.1 h))
          (one_within st others id n one)
    ])
