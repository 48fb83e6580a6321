-- Half of what is left is left out, and the number isn't there.
use Rattle.std.proofs.Common.{◌<◌, ◌+◌, ◌-◌, ◌/◌, ℕ, List, map, get_or, length, arith}
use Rattle.std.proofs.lemmas.List.{length-map}
use Rattle.std.proofs.lemmas.Option.{slice_get-get_or}
use Rattle.mm_frame.specs.declared.number.LabelId.{LabelId}
use Rattle.mm_frame.proofs.Names.NameNumbers.{get_mapped}
use Rattle.mm_rules.proofs.NumberBounds.{bounds_above, bounds_below, bounds_empty}
use Rattle.mm_axioms.proofs.bits.index_of.Goals as goal

pub loop-low-preserved-then-number-id-2 : goal.loop-low-preserved-then-number-id-2
loop-low-preserved-then-number-id-2 c =
    let numbers : List LabelId = c.args.numbers.now in
    let middle : ℕ = c.loop-low.low + (c.loop-low.high - c.loop-low.low) / 2 in
    let x : LabelId = get_or numbers middle (record { 0 = 0 }) in
    let top = c.loop-low.invariant.0 in
    let less : middle < length numbers = omega (arith, top, length-map numbers (λ (l : LabelId). l.0)) in
    let at = get_mapped (λ (l : LabelId). l.0) numbers middle x (slice_get-get_or numbers middle (record { 0 = 0 }) less) in
    bounds_above (map (λ (l : LabelId). l.0) numbers) c.args.id.0 c.loop-low.low c.loop-low.high middle x.0 c.requires c.loop-low.invariant at c.if-number-id-2.true

pub loop-low-preserved : goal.loop-low-preserved
loop-low-preserved c =
    let numbers : List LabelId = c.args.numbers.now in
    let middle : ℕ = c.loop-low.low + (c.loop-low.high - c.loop-low.low) / 2 in
    let x : LabelId = get_or numbers middle (record { 0 = 0 }) in
    let top = c.loop-low.invariant.0 in
    let less : middle < length numbers = omega (arith, top, length-map numbers (λ (l : LabelId). l.0)) in
    let at = get_mapped (λ (l : LabelId). l.0) numbers middle x (slice_get-get_or numbers middle (record { 0 = 0 }) less) in
    let apart = c.if-number-id.false in
    let up = c.if-number-id-2.false in
    bounds_below (map (λ (l : LabelId). l.0) numbers) c.args.id.0 c.loop-low.low c.loop-low.high middle x.0 c.requires c.loop-low.invariant at (omega arith) (omega arith)

pub returns-clause-none : goal.returns-clause-none
returns-clause-none c = λ is.
    bounds_empty (map (λ (l : LabelId). l.0) c.args.numbers.now) c.args.id.0 c.loop-low.low c.loop-low.high c.loop-low.invariant c.loop-low-test.false
