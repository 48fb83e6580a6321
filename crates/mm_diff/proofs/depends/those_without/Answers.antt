-- One more number, which is taken or passed over.
use Rattle.std.proofs.Common.{ℕ, List, get_or, map, sym, ◌∙◌}
use Rattle.std.proofs.lemmas.Bool.{false≢true}
use Rattle.std.proofs.lemmas.Option.{slice_get-get_or}
use Rattle.mm_frame.specs.declared.number.LabelId.{LabelId}
use Rattle.mm_rules.proofs.OrderedNumbers.{among_taken, among_passed}
use Rattle.mm_diff.specs.Mirror.Depends.{HasTwinAmong}
use Rattle.mm_diff.proofs.RenamedLabels.{all_passed}
use Rattle.mm_diff.proofs.depends.those_without.Goals as goal
use Rattle.mm_diff.proofs.depends.those_without.Goals.{then-not-has_twin_among+in_ok-push}
use Rattle.mm_diff.proofs.depends.those_without.Goals.{else-not-has_twin_among}

pub loop-id-preserved : goal.loop-id-preserved
loop-id-preserved c =
    let axioms : List LabelId = c.args.axioms.now in
    let x : LabelId = get_or axioms c.loop-id.id-index (record { 0 = 0 }) in
    let at = slice_get-get_or axioms c.loop-id.id-index (record { 0 = 0 }) c.loop-id-test.true in
    let M : ℕ → Type 0 =
    λ n. ¬ (HasTwinAmong c.args.twins.now (map (λ (l : LabelId). l.0) c.args.others.now) n) in
    elim c.if-not-has_twin_among.branch [
      | then-not-has_twin_among+in_ok-push w ↦
          among_taken M axioms c.loop-id.without.items c.if-not-has_twin_among.without.items
          c.loop-id.id-index x c.requires.axioms at c.loop-id.invariant
          (λ h. false≢true (sym w.if-not-has_twin_among.true ∙ c.has_twin_among.ensures.1 h))
          (rw w.without-is w.in_ok-push.ensures.items)
      | else-not-has_twin_among w ↦
          rw w.without-is (among_passed M axioms c.loop-id.without.items c.loop-id.id-index x at
          c.loop-id.invariant
          (λ none. none (c.has_twin_among.ensures.0 w.if-not-has_twin_among.false)))
    ]

pub returns : goal.returns
returns c =
    all_passed
    (λ n. ¬ (HasTwinAmong c.args.twins.now (map (λ (l : LabelId). l.0) c.args.others.now) n))
    c.args.axioms.now (map (λ (l : LabelId). l.0) c.loop-id.without.items) c.loop-id.id-index
    c.loop-id-test.false c.loop-id.invariant
