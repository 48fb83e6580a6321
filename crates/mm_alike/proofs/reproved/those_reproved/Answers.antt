-- One more number, which is taken or passed over.
use Rattle.std.proofs.Common.{ℕ, ◌≤◌, List, length, refl, sym, ap, subst, ◌∙◌, arith}
use Rattle.std.proofs.lemmas.Bool.{false≢true}
use Rattle.mm_frame.specs.Numbers.{labelled_sentences, IsLabelNumber}
use Rattle.mm_frame.specs.Sentence.{Sentence}
use Rattle.mm_rules.specs.Conclusion.{Conclusion}
use Rattle.mm_verdict.proofs.Verdicts.AcceptedStatements.{KeptWell}
use Rattle.mm_rules.proofs.OrderedNumbers.{up_to_taken, up_to_passed, up_to_ended}
use Rattle.mm_alike.specs.Alike.{IsReproved}
use Rattle.mm_alike.proofs.CheckedTheorems.{few_kept, labels_end, reproved_before}
use Rattle.mm_alike.proofs.reproved.those_reproved.Goals as goal
use Rattle.mm_alike.proofs.reproved.those_reproved.Goals.{then-branch+in_ok-push, else-branch}
use Rattle.mm_alike.proofs.reproved.those_reproved.Goals.{else-loop-number-test}
use Rattle.mm_alike.proofs.reproved.those_reproved.Goals.{then-loop-number-test+then-not-is_label}

pub is_reproved-requires-clause-widths : goal.is_reproved-requires-clause-widths
is_reproved-requires-clause-widths c = λ t.
    rw (
      ap (λ (v : Conclusion). v.sentences) c.checked.view_is,
      ap (λ (v : Conclusion). v.sentences) c.other_checked.view_is,
    ) at
    (c.keep_widths-keeps_widths.ensures t)

pub loop-number-preserved : goal.loop-number-preserved
loop-number-preserved c = λ statements others reads reads_too.
    let P : ℕ → Type 0 = λ n. IsReproved statements others n in
    let so_far = c.loop-number.invariant statements others reads reads_too in
    let told = c.in_ok-is_reproved.ensures statements others reads reads_too in
    elim c.if-branch.branch [
      | then-branch+in_ok-push w ↦
          up_to_taken P c.loop-number.those.items c.if-branch.those.items
          (record { 0 = c.loop-number.number }) c.loop-number.number so_far refl
          (told.0 w.if-branch.true) (rw w.those-is w.in_ok-push.ensures.items)
      | else-branch w ↦
          rw w.those-is (up_to_passed P c.loop-number.those.items c.loop-number.number so_far
          (λ h. false≢true (sym w.if-branch.false ∙ told.1 h)))
    ]

pub returns : goal.returns
returns c = λ statements others reads reads_too.
    let now : Conclusion = c.args.checked.now in
    let P : ℕ → Type 0 = λ n. IsReproved statements others n in
    let well = subst KeptWell c.checked.view_is c.checked.invariant in
    let here = ap (λ (v : Conclusion). v.sentences) c.checked.view_is in
    let few = few_kept now well in
    up_to_ended P c.loop-number.those.items c.loop-number.number
    (c.loop-number.invariant statements others reads reads_too)
    (elim c.loop-number-test.branch [
      | else-loop-number-test w ↦
          let past : length (labelled_sentences now.sentences) ≤ c.loop-number.number =
          omega arith in
          λ n p. reproved_before now statements others c.loop-number.number n well reads past p
      | then-loop-number-test+then-not-is_label w ↦
          λ n p. reproved_before now statements others c.loop-number.number n well reads
          (labels_end now.sentences c.loop-number.number
          (λ h. false≢true (sym w.if-not-is_label.true
          ∙ w.is_label.ensures.1 (subst (λ (ss : List Sentence).
          IsLabelNumber ss c.loop-number.number) (sym here) h)))) p
    ])
