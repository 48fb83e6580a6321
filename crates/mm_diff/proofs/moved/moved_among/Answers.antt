-- One more index, at which one was moved or not.
use Rattle.std.proofs.Common.{ℕ, ◌≤◌, List, get_or, length, map, refl, sym, ◌∙◌, arith}
use Rattle.std.proofs.lemmas.Bool.{false≢true}
use Rattle.std.proofs.lemmas.List.{length-map}
use Rattle.std.proofs.lemmas.Option.{slice_get-get_or}
use Rattle.mm_frame.specs.declared.number.LabelId.{LabelId}
use Rattle.mm_diff.specs.Mirror.Changes.{IsMovedAt}
use Rattle.mm_diff.proofs.MovedPlaces.{all_moved, next_moved, next_stays}
use Rattle.mm_diff.proofs.moved.moved_among.Goals as goal
use Rattle.mm_diff.proofs.moved.moved_among.Goals.{then-is_moved+in_ok-push, else-is_moved}

pub loop-at-preserved : goal.loop-at-preserved
loop-at-preserved c =
    let ids : List LabelId = c.args.ids.now in
    let x : LabelId = get_or ids c.loop-at.at (record { 0 = 0 }) in
    let there = slice_get-get_or ids c.loop-at.at (record { 0 = 0 }) c.loop-at-test.true in
    let P : ℕ → Type 0 = IsMovedAt c.args.places.now in
    elim c.if-is_moved.branch [
      | then-is_moved+in_ok-push w ↦
          next_moved P ids c.loop-at.moved.items c.if-is_moved.moved.items c.loop-at.at x
          c.requires.rising there c.loop-at.invariant (c.is_moved.ensures.0 w.if-is_moved.true)
          (rw w.moved-is w.in_ok-push.ensures.items)
      | else-is_moved w ↦
          rw w.moved-is (next_stays P ids c.loop-at.moved.items c.loop-at.moved.items c.loop-at.at x
          c.requires.rising there c.loop-at.invariant
          (λ h. false≢true (sym w.if-is_moved.false ∙ c.is_moved.ensures.1 h)) refl)
    ]

pub returns : goal.returns
returns c =
    let ids : List LabelId = c.args.ids.now in
    let all : length (map (λ (l : LabelId). l.0) ids) ≤ c.loop-at.at =
    omega (arith, length-map ids (λ (l : LabelId). l.0)) in
    all_moved (IsMovedAt c.args.places.now) (map (λ (l : LabelId). l.0) ids)
    (map (λ (l : LabelId). l.0) c.loop-at.moved.items) c.loop-at.at all c.loop-at.invariant
