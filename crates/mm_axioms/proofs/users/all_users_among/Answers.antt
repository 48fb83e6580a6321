-- One more proof was passed: its theorem is marked and listed, or neither.
use Rattle.std.proofs.Common.{◌≡◌, ◌⊎◌, ◌++◌, ◌∷◌, [], ◌<◌, ℕ, List, length, Bool, sym, ap, subst, ◌∙◌, arith}
use Rattle.std.proofs.lemmas.List.{map-append}
use Rattle.mm_frame.specs.declared.number.LabelId.{LabelId}
use Rattle.mm_base.proofs.Lists.{get_within, contains_from_at}
use Rattle.mm_step.specs.Plain.{ids_in}
use Rattle.mm_rules.specs.Conclusion.{ProofUses}
use Rattle.mm_rules.specs.Mirror.Marks.{IsMarked}
use Rattle.mm_axioms.proofs.Resting.UsersOf.{passing_starts, passing_passes, passing_marks, passing_ends}
use Rattle.mm_axioms.proofs.users.all_users_among.Goals as goal
use Rattle.mm_axioms.proofs.users.all_users_among.Goals.{then-is_one_reached+in_ok-push, else-is_one_reached}

pub loop-at-init : goal.loop-at-init
loop-at-init c =
    rw c.new-users.ensures.items (passing_starts c.args.kept.now c.args.assertion.0 c.end_of.result c.in_ok-marks.marks.items c.end_of.ensures.room
    (c.in_ok-marks.ensures.items_if_clones_equal (λ y h. h)))

pub index_mut-requires : goal.index_mut-requires
index_mut-requires c =
    let uses : List ProofUses = c.args.kept.now in
    let within : c.loop-at.at < length uses = omega arith in
    let found = get_within uses c.loop-at.at within in
    let less = c.loop-at.invariant.room found.0 (contains_from_at uses found.0 (c.loop-at.at, found.1)) in
    let number : c.proof-theorem.result.0 ≡ found.0.number = c.proof-theorem.ensures found.0 found.1 in
    let here : c.proof-theorem.result.0 < length c.loop-at.marks.items = subst (λ (n : ℕ). n < length c.loop-at.marks.items) (sym number) less in
    omega (arith, here)

pub loop-at-preserved : goal.loop-at-preserved
loop-at-preserved c =
    let uses : List ProofUses = c.args.kept.now in
    let id : ℕ = c.args.assertion.0 in
    let k : ℕ = c.loop-at.at in
    let marks : List Bool = c.loop-at.marks.items in
    let within : k < length uses = omega arith in
    let found = get_within uses k within in
    let u : ProofUses = found.0 in
    elim c.if-is_one_reached.branch [
      | then-is_one_reached+in_ok-push w ↦
          let (m, among, reached) = c.is_one_reached.ensures.some w.if-is_one_reached.true in
          let number : w.proof-theorem.result.0 ≡ u.number = w.proof-theorem.ensures u found.1 in
          let passed = passing_marks uses id k marks (ids_in c.loop-at.users.items) u c.requires c.loop-at.invariant found.1 m
          ((c.used.ensures u found.1 m).0 among) (subst (λ (ms : List Bool). (m ≡ id) ⊎ IsMarked ms m) c.deref.ensures.value reached) in
          let listed : ids_in (c.loop-at.users.items ++ w.proof-theorem.result ∷ []) ≡ ids_in c.loop-at.users.items ++ u.number ∷ [] =
          map-append (λ (l : LabelId). l.0) c.loop-at.users.items (w.proof-theorem.result ∷ []) ∙ ap (λ (n : ℕ). ids_in c.loop-at.users.items ++ n ∷ []) number in
          rw (w.marks-is, w.users-is, w.in_ok-push.ensures.items, listed, number) passed
      | else-is_one_reached w ↦
          rw (w.marks-is, w.users-is) (passing_passes uses id k marks (ids_in c.loop-at.users.items) u c.loop-at.invariant found.1
          (λ n holds reached. absurd (
          let t = c.is_one_reached.ensures.all n ((c.used.ensures u found.1 n).1 holds) (subst (λ (ms : List Bool). (n ≡ id) ⊎ IsMarked ms n) (sym c.deref.ensures.value) reached) in
          let f = w.if-is_one_reached.false in cc)))
    ]

pub returns : goal.returns
returns c =
    passing_ends c.args.kept.now c.args.assertion.0 c.loop-at.at c.loop-at.marks.items _ c.loop-at.invariant (omega arith)
