-- The proofs are passed from the last one down.
use Rattle.std.proofs.Common.{◌≡◌, ◌↔◌, ℕ, suc, ◌+◌, ◌-◌, ◌<◌, ◌≤◌, ◌⊎◌, inl, inr, List, map, length, slice_get, Contains, Bool, Some, sym, subst, ◌∙◌, arith}
use Rattle.std.proofs.lemmas.List.{with_items_is}
use Rattle.mm_frame.specs.declared.number.LabelId.{LabelId}
use Rattle.mm_base.proofs.Lists.{get_within, contains_from_at}
use Rattle.mm_rules.specs.Conclusion.{ProofUses}
use Rattle.mm_rules.specs.Mirror.Marks.{IsMarked}
use Rattle.mm_axioms.proofs.Resting.RestsOn.{IsMarkedBy, marked_as, marked_within, marking_starts}
use Rattle.mm_axioms.proofs.Resting.RestsOn.{marking_passes, marking_marks, marking_ends}
use Rattle.mm_axioms.proofs.report.reach.Goals as goal
use Rattle.mm_axioms.proofs.report.reach.Goals.{then-is_reached, else-is_reached}

pub loop-step-init : goal.loop-step-init
loop-step-init c =
    marking_starts c.args.kept.now c.args.theorem.0 (length c.args.kept.now - 0) c.in_ok-marks.marks.items (omega arith) (c.in_ok-marks.ensures.items_if_clones_equal (λ y h. h))

-- where the proof at an index, and what it uses, is reached
reached_at : (marks seen : List Bool) (theorem id number : ℕ) → seen ≡ marks → id ≡ number → (id ≡ theorem) ⊎ IsMarked seen id → (number ≡ theorem) ⊎ IsMarked marks number
reached_at marks seen theorem id number same is (inl own) = inl (sym is ∙ own)
reached_at marks seen theorem id number same is (inr marked) =
    inr (subst (λ (n : ℕ). IsMarked marks n) is (subst (λ (ms : List Bool). IsMarked ms id) same marked))

reached_within : (marks : List Bool) (theorem number : ℕ) → length marks ≡ theorem → (number ≡ theorem) ⊎ IsMarked marks number → number ≤ length marks
reached_within marks theorem number long (inl own) = omega arith
reached_within marks theorem number long (inr marked) = let less : number < length marks = marked_within marks number marked in omega arith

marked_same : (old old' new new' : List Bool) (ns ns' : List ℕ) → old ≡ old' → new ≡ new' → ((n : ℕ) → Contains ns n ↔ Contains ns' n) → IsMarkedBy old new ns → IsMarkedBy old' new' ns'
marked_same old old' new new' ns ns' e f g h =
    subst (λ (a : List Bool). IsMarkedBy a new' ns') e (subst (λ (b : List Bool). IsMarkedBy old b ns') f (marked_as old new ns ns' g h))

pub mark-requires : goal.mark-requires
mark-requires c = λ n holds.
    let uses : List ProofUses = c.args.kept.now in
    let index : ℕ = c.len-count.result - 1 - c.loop-step.step in
    let within : index < length uses = omega arith in
    let found = get_within uses index within in
    let u : ProofUses = found.0 in
    let used : Contains u.used n = (c.used.ensures u found.1 n).0 holds in
    let less : n < u.number = c.requires.below u n (contains_from_at uses u (index, found.1)) used in
    let reached = reached_at c.loop-step.marks.items c.deref.result.now c.args.theorem.0 c.proof-id.result.0 u.number c.deref.ensures.value (c.proof-id.ensures u found.1)
    (c.is_reached.ensures.0 c.if-is_reached.true) in
    let room : u.number ≤ length c.loop-step.marks.items = reached_within c.loop-step.marks.items c.args.theorem.0 u.number c.loop-step.invariant.long reached in
    subst (λ (ms : List Bool). n < length ms) (sym c.deref_mut.ensures.value) (omega arith)

pub loop-step-preserved : goal.loop-step-preserved
loop-step-preserved c =
    let uses : List ProofUses = c.args.kept.now in
    let marks : List Bool = c.loop-step.marks.items in
    let next : ℕ = length uses - (c.loop-step.step + 1) in
    let left : ℕ = length uses - c.loop-step.step in
    let within : next < length uses = omega arith in
    let found = get_within uses next within in
    let u : ProofUses = found.0 in
    let index : next ≡ c.len-count.result - 1 - c.loop-step.step = omega arith in
    let at : slice_get uses (c.len-count.result - 1 - c.loop-step.step) ≡ Some u = subst (λ (n : ℕ). slice_get uses n ≡ Some u) index found.1 in
    let step : left ≡ suc next = omega arith in
    elim c.if-is_reached.branch [
      | then-is_reached w ↦
          let reached = reached_at marks c.deref.result.now c.args.theorem.0 c.proof-id.result.0 u.number c.deref.ensures.value (c.proof-id.ensures u at)
          (c.is_reached.ensures.0 w.if-is_reached.true) in
          let items : w.mark.new.marks ≡ c.if-is_reached.marks.items =
          rw w.marks-is (sym (with_items_is c.loop-step.marks w.mark.new.marks (w.mark.ensures.length ∙ w.deref_mut.ensures.len))) in
          let more : IsMarkedBy marks c.if-is_reached.marks.items u.used =
          marked_same w.deref_mut.result.now marks w.mark.new.marks c.if-is_reached.marks.items (map (λ (l : LabelId). l.0) w.used.result.now) u.used
          w.deref_mut.ensures.value items (w.used.ensures u at)
          (record { same = w.mark.ensures.length; kept = w.mark.ensures.kept; marked = w.mark.ensures.marked; only = w.mark.ensures.only }) in
          marking_marks uses c.args.theorem.0 left next marks c.if-is_reached.marks.items u c.requires c.loop-step.invariant step found.1 reached more
      | else-is_reached w ↦
          rw w.marks-is (marking_passes uses c.args.theorem.0 left next marks u c.loop-step.invariant step found.1
          (λ own. absurd (let t = c.is_reached.ensures.1 (inl (c.proof-id.ensures u at ∙ own)) in let f = w.if-is_reached.false in cc))
          (λ marked. absurd (let t = c.is_reached.ensures.1 (inr (subst (λ (n : ℕ). IsMarked c.deref.result.now n) (sym (c.proof-id.ensures u at)) (subst (λ (ms : List Bool). IsMarked ms u.number) (sym c.deref.ensures.value) marked))) in let f = w.if-is_reached.false in cc)))
    ]

pub returns-clause-marks : goal.returns-clause-marks
returns-clause-marks c =
    marking_ends c.args.kept.now c.args.theorem.0 (length c.args.kept.now - c.loop-step.step) c.loop-step.marks.items c.loop-step.invariant (omega arith)
